-- How often a room failed itself: a failure of an archive that it lent is none of its own.
use Rattle.std.specs.Prelude.{◌≡◌, ◌≤◌, ℕ}
use Rattle.pot_outside.specs.Counts.{Rose}

-- The count of own failures rose where the answer says so, and nowhere else.
pub record FailsOwn (before now : ℕ) (failed : Type 0) : Type 0 where
  pub later : before ≤ now
  pub rose : failed → Rose before now
  pub still : (failed → ⊥) → now ≡ before
