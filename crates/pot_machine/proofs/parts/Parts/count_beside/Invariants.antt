use Rattle.std.proofs.Common.{◌≡◌, not, ◌&&◌}
use Rattle.std.specs.Prelude.{◌==◌}
use Rattle.pot_machine.specs.Table.{count, slot_at}
use Rattle.pot_machine.specs.Slot.{meets}
use Rattle.pot_machine.proofs.parts.Parts.count_beside.Given as goal

abbrev pub invariant-loop-other : goal.invariant-loop-other
invariant-loop-other l = l.number ≡ count l.other (λ k. not (k == l.column) && meets l.condition (slot_at l.self l.stripe k))
