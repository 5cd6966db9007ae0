-- Points that shares are joined at.
use Rattle.std.specs.Prelude.{◌<◌, ℕ, List, nat_eq}
use Rattle.std.specs.List.{All, IsDistinct}
use Rattle.pot_bytes.specs.Lists.{AreBytes}

-- distinct bytes, none of them 0
pub record ArePoints (points : List ℕ) : Type 0 where
  pub bytes : AreBytes points
  pub distinct : IsDistinct nat_eq points
  pub not_zero : All (λ x. 0 < x) points
