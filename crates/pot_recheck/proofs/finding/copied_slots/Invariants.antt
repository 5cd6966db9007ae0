use Rattle.std.proofs.Common.{◌≡◌, ◌*◌, take}
use Rattle.pot_machine.specs.Table.{width}
use Rattle.pot_recheck.proofs.finding.copied_slots.Given as goal

abbrev pub invariant-loop-stripe : goal.invariant-loop-stripe
invariant-loop-stripe l = l.slots.items ≡ take (l.stripe * width l.table) l.table.slots
