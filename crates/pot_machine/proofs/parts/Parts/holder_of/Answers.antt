use Rattle.std.proofs.Common.{sym, ap, ◌∙◌, arith}
use Rattle.pot_machine.specs.Column.{names}
use Rattle.pot_machine.specs.Table.{width, column_at}
use Rattle.pot_machine.proofs.Searches.{least_at}
use Rattle.pot_machine.proofs.parts.Parts.holder_of.Goals as goal

pub returns-then-names : goal.returns-then-names
returns-then-names c =
    sym (least_at c.loop-column.column (width c.args.self.now) (λ k. names (column_at c.args.self.now k) c.args.number) c.loop-column.invariant
    (ap (λ x. names x c.args.number) (sym c.column.ensures) ∙ sym c.names.ensures ∙ c.if-names.true) (omega (arith, c.width-column-end.ensures.value)))
