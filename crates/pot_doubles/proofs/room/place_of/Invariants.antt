use Rattle.std.proofs.Common.{◌≢◌, ◌<◌, ℕ, get_or}
use Rattle.pot_outside.specs.declared.archive.Shelf.{Shelf}
use Rattle.pot_doubles.specs.declared.archive.LossyArchive.{LossyArchive}
use Rattle.pot_doubles.proofs.room.place_of.Given as goal

abbrev pub invariant-loop-place : goal.invariant-loop-place
invariant-loop-place l = (k : ℕ) (d : Shelf LossyArchive) → k < l.place → (get_or l.shelves k d).number ≢ l.number
