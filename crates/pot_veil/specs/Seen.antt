-- Points that are seen.
use Rattle.std.specs.Prelude.{◌<◌, ◌≤◌, ℕ, List, length, slice_index}

-- ascending points of 1 to n
pub record AreSeen (n : ℕ) (seen : List ℕ) : Type 0 where
  pub ascending : (i k : ℕ) → i < k → k < length seen → slice_index seen i < slice_index seen k
  pub each : (i : ℕ) → i < length seen → (1 ≤ slice_index seen i) × (slice_index seen i ≤ n)
