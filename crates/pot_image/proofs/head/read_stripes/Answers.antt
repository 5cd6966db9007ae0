use Rattle.std.proofs.Common.{arith, ◌≡◌, ◌≤◌, ◌<◌, ℕ, false, refl}
use Rattle.pot_image.proofs.Steps.{exits, fails_at, kept, refused, short}
use Rattle.std.proofs.Common.{◌⊎◌}
use Rattle.std.proofs.lemmas.Bool.Decides.{nat_tests}
use Rattle.pot_image.specs.Numbers.{between}
use Rattle.pot_image.proofs.head.read_stripes.Goals as goal

pub returns-in_err-number : goal.returns-in_err-number
returns-in_err-number c = exits _ _ _ _ c.from_residual.ensures.1 (short _ _ _ _ _ c.in_err-number.ensures (λ n h. refl))

pub returns-then-number-lt1 : goal.returns-then-number-lt1
returns-then-number-lt1 c = fails_at _ _ _ c.at.ensures (refused _ _ _ _ _ _ c.in_ok-number.ensures (outside _ c.then-number-lt1.either))
  where
    outside : (n : ℕ) → ((n < 1) ⊎ ((1 ≤ n) × (4096 < n))) → between 1 4096 n ≡ false
    outside n h = grind (arith, nat_tests)

pub returns : goal.returns
returns c = kept _ _ _ _ _ _ c.in_ok-number.ensures (grind (arith, nat_tests))
