use Rattle.std.proofs.Common.{◌≡◌, None}
use Rattle.pot_machine.specs.Table.{least, slot_at}
use Rattle.pot_machine.specs.Slot.{meets}
use Rattle.pot_machine.proofs.parts.Parts.first.Given as goal

abbrev pub invariant-loop-column : goal.invariant-loop-column
invariant-loop-column l = least l.column (λ k. meets l.condition (slot_at l.self l.stripe k)) ≡ None
