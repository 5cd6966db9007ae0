use Rattle.std.proofs.Common.{take}
use Rattle.std.specs.List.{list_any}
use Rattle.pot_audit.specs.Loose.{AddsMarks, has_place}
use Rattle.pot_audit.proofs.loose.mark_record.Given as goal

abbrev pub invariant-loop-split : goal.invariant-loop-split
invariant-loop-split l =
    AddsMarks (λ s. list_any (λ x. has_place x.places l.spot.group l.spot.column s) (take l.split-index l.kept.older)) l.fn.marks l.marks
