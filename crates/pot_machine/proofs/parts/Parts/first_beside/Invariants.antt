use Rattle.std.proofs.Common.{◌≡◌, None, not, ◌&&◌}
use Rattle.std.specs.Prelude.{◌==◌}
use Rattle.pot_machine.specs.Table.{least, slot_at}
use Rattle.pot_machine.specs.Slot.{meets}
use Rattle.pot_machine.proofs.parts.Parts.first_beside.Given as goal

abbrev pub invariant-loop-other : goal.invariant-loop-other
invariant-loop-other l = least l.other (λ k. not (k == l.column) && meets l.condition (slot_at l.self l.stripe k)) ≡ None
