-- What a write may leave that fails.
use Rattle.std.specs.Prelude.{◌≡◌, ◌⊎◌, ℕ, List, Option, Some, None}

-- in the place that it writes: what was there, the new bytes or nothing
abbrev pub MayLeave : Option (List ℕ) → List ℕ → Option (List ℕ) → Type 0
MayLeave was bytes left = (left ≡ was) ⊎ ((left ≡ Some bytes) ⊎ (left ≡ None))
