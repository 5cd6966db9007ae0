-- What is known of the points of one fragment.
use Rattle.std.specs.Prelude.{◌≡◌, ◌≢◌, ℕ, [], slice_index_or}
use Rattle.pot_replies.specs.Joined.{points_read, shares_read}
use Rattle.pot_store.specs.declared.points.Points.{Points}
use Rattle.pot_store.specs.declared.shares.Shares.{Shares}
use Rattle.pot_store.specs.declared.visiting.Point.TheVariants as point
use Rattle.pot_store.specs.Visits.{Came, came_of, block_in}
use Rattle.pot_store.specs.Visits as visits

-- what came of a point: of one past the last nothing is known
abbrev pub came_in : Points → ℕ → Came
came_in s x =
    came_of (slice_index_or s.known.items x point.Unknown) (slice_index_or s.blocks.items x [])

-- no point was looked at
abbrev pub AreUnknown : Points → Type 0
AreUnknown s = (x : ℕ) → came_in s x ≡ visits.Unknown

-- this came of one point, and the others are as they were
abbrev pub IsPointSet : ℕ → Came → Points → Points → Type 0
IsPointSet x came old new = (came_in new x ≡ came) × ((y : ℕ) → y ≢ x → came_in new y ≡ came_in old y)

-- the shares are those of the first n points
abbrev pub AreGathered : ℕ → Points → Shares → Type 0
AreGathered n s shares =
    (shares.points.items ≡ points_read n (λ x. block_in (came_in s x)))
    × (shares.rows.items ≡ shares_read n (λ x. block_in (came_in s x)))
