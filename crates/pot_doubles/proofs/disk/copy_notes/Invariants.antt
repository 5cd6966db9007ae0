use Rattle.std.proofs.Common.{◌≡◌, ◌∷◌, ◌++◌, map, drop}
use Rattle.std.specs.Prelude.{not}
use Rattle.pot_outside.specs.Disks.{Synced}
use Rattle.pot_doubles.specs.Disks.{call_of, left_by}
use Rattle.pot_doubles.proofs.disk.copy_notes.Given as goal

abbrev pub invariant-loop-note : goal.invariant-loop-note
invariant-loop-note l = map call_of l.copies.items ++ left_by (not l.filling) (map call_of (drop l.note-index l.notes)) ≡ Synced ∷ left_by l.keep (map call_of l.notes)
