-- Counts of faults and of losses: numbers of 64 bits that never fall and stand still at their last
-- value.
use Rattle.std.specs.Prelude.{◌<◌, ◌≤◌, ◌-◌, ◌^◌, ◌⊎◌, ℕ}

-- a count is greater than before, or stands at its last value, where a rise can't be seen
abbrev pub Rose : ℕ → ℕ → Type 0
Rose before now = (before < now) ⊎ (2 ^ 64 - 1 ≤ now)

-- a count never falls, and an answer that says so comes only where it rose in the call
pub record Caused (before now : ℕ) (fault : Type 0) : Type 0 where
  pub later : before ≤ now
  pub rose : fault → Rose before now
