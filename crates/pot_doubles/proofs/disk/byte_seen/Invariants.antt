use Rattle.std.proofs.Common.{◌≡◌, ◌+◌, map, drop}
use Rattle.pot_outside.specs.Disks.{seen}
use Rattle.pot_doubles.specs.Disks.{call_of}
use Rattle.pot_doubles.proofs.disk.byte_seen.Given as goal

abbrev pub invariant-loop-note : goal.invariant-loop-note
invariant-loop-note l = seen (map call_of (drop l.note-index l.notes)) (l.at + l.k) ≡ seen (map call_of l.notes) (l.at + l.k)
