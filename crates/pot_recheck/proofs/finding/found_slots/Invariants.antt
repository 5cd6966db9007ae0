use Rattle.std.proofs.Common.{take}
use Rattle.pot_recheck.specs.Finding.{AreFoundSlots}
use Rattle.pot_recheck.proofs.finding.found_slots.Given as goal

abbrev pub invariant-loop-named : goal.invariant-loop-named
invariant-loop-named l = AreFoundSlots (take l.named-index l.found) l.group l.table l.slots.items
