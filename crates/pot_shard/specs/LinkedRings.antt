-- Shards that are linked in a ring.
use Rattle.std.specs.Prelude.{◌≡◌, ◌<◌, ◌⊎◌, ℕ, ◌+◌, List, map}
use Rattle.std.specs.List.{range_with_len, Contains}
use Rattle.pot_pointer.specs.Pointers.{blur}
use Rattle.pot_shard.specs.declared.shard.Shard.{Shard}

-- y is the point after x of n: x + 1, or 1 after n
abbrev pub IsNextPoint : ℕ → ℕ → ℕ → Type 0
IsNextPoint n x y = ((x < n) × (y ≡ x + 1)) ⊎ ((x ≡ n) × (y ≡ 1))

-- Shard t is linked from shard s: both have the same m, n and blur, t stands at the next point, and
-- the pointer of s is the blur of the name of t.
pub record IsLinked (s t : Shard) : Type 0 where
  pub needed : t.m ≡ s.m
  pub count : t.n ≡ s.n
  pub bits : t.blur ≡ s.blur
  pub next : IsNextPoint s.n s.x t.x
  pub pointer : s.pointer ≡ blur t.name t.blur

-- n shards at the points 1 to n, each linked to the one at the next point
pub record IsLinkedRing (n : ℕ) (shards : List Shard) : Type 0 where
  pub points : map (λ s. s.x) shards ≡ range_with_len 1 n
  pub linked : (s t : Shard) → Contains shards s → Contains shards t → IsNextPoint n s.x t.x
      → IsLinked s t
