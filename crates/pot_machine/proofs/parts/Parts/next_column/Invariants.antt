use Rattle.std.proofs.Common.{◌≡◌, None}
use Rattle.pot_machine.specs.Table.{least, is_ahead}
use Rattle.pot_machine.proofs.parts.Parts.next_column.Given as goal

abbrev pub invariant-loop-column : goal.invariant-loop-column
invariant-loop-column l = least l.column (is_ahead l.self l.relay) ≡ None
