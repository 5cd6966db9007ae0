use Rattle.std.proofs.Common.{◌≡◌, None}
use Rattle.pot_machine.specs.Table.{least, column_at}
use Rattle.pot_machine.specs.Column.{names}
use Rattle.pot_machine.proofs.parts.Parts.holder_of.Given as goal

abbrev pub invariant-loop-column : goal.invariant-loop-column
invariant-loop-column l = least l.column (λ k. names (column_at l.self k) l.number) ≡ None
