use Rattle.std.proofs.Common.{sym, ap, ◌∙◌, arith, not, ◌&&◌}
use Rattle.std.specs.Prelude.{◌==◌}
use Rattle.pot_machine.specs.Table.{width, slot_at}
use Rattle.pot_machine.specs.Slot.{meets}
use Rattle.pot_machine.proofs.Searches.{least_at, other_passes}
use Rattle.pot_machine.proofs.parts.Parts.first_beside.Goals as goal

pub returns-then-meets : goal.returns-then-meets
returns-then-meets c =
    sym (least_at c.loop-other.other (width c.args.self.now) (λ k. not (k == c.args.column) && meets c.args.condition (slot_at c.args.self.now c.args.stripe k)) c.loop-other.invariant
    (other_passes _ _ _ c.if-other-column.true (ap (meets c.args.condition) (sym c.slot.ensures) ∙ sym c.meets.ensures ∙ c.if-meets.true)) (omega (arith, c.width-other-end.ensures.value)))
