use Rattle.std.proofs.Common.{sym, ◌∙◌, arith}
use Rattle.pot_machine.specs.Table.{width, is_ahead}
use Rattle.pot_machine.proofs.Searches.{least_at}
use Rattle.pot_machine.proofs.parts.Parts.next_column.Goals as goal

pub returns-then-is_ahead : goal.returns-then-is_ahead
returns-then-is_ahead c =
    sym (least_at c.loop-column.column (width c.args.self.now) (is_ahead c.args.self.now c.args.relay) c.loop-column.invariant
    (sym c.is_ahead.ensures ∙ c.if-is_ahead.true) (omega (arith, c.width-column-end.ensures.value)))
