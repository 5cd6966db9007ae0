use Rattle.std.proofs.Common.{◌≢◌, ◌<◌, ℕ}
use Rattle.pot_store.specs.Visits.{Failed}
use Rattle.pot_store.specs.Points.{came_in}
use Rattle.pot_store.proofs.fragments.missing.Given as goal

abbrev pub invariant-loop-x : goal.invariant-loop-x
invariant-loop-x l = (y : ℕ) → y < l.x → (k : ℕ) → came_in l.points y ≢ Failed k
