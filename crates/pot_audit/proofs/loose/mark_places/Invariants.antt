use Rattle.std.proofs.Common.{take}
use Rattle.pot_audit.specs.Loose.{AddsMarks, has_place}
use Rattle.pot_audit.proofs.loose.mark_places.Given as goal

abbrev pub invariant-loop-place : goal.invariant-loop-place
invariant-loop-place l = AddsMarks (has_place (take l.place-index l.places) l.spot.group l.spot.column) l.fn.marks l.marks
