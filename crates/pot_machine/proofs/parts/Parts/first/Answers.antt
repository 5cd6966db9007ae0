use Rattle.std.proofs.Common.{sym, ap, ◌∙◌, arith}
use Rattle.pot_machine.specs.Table.{width, slot_at}
use Rattle.pot_machine.specs.Slot.{meets}
use Rattle.pot_machine.proofs.Searches.{least_at}
use Rattle.pot_machine.proofs.parts.Parts.first.Goals as goal

pub returns-then-meets : goal.returns-then-meets
returns-then-meets c =
    sym (least_at c.loop-column.column (width c.args.self.now) (λ k. meets c.args.condition (slot_at c.args.self.now c.args.stripe k)) c.loop-column.invariant
    (ap (meets c.args.condition) (sym c.slot.ensures) ∙ sym c.meets.ensures ∙ c.if-meets.true) (omega (arith, c.width-column-end.ensures.value)))
