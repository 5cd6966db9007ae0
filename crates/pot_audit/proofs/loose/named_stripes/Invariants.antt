use Rattle.std.proofs.Common.{take, replicate, false}
use Rattle.pot_audit.specs.Loose.{AddsMarks, is_named}
use Rattle.pot_audit.proofs.loose.named_stripes.Given as goal

abbrev pub invariant-loop-kept : goal.invariant-loop-kept
invariant-loop-kept l = AddsMarks (is_named (take l.kept-index l.records) l.spot.group l.spot.column) (replicate l.stripes false) l.marks.items
