use Rattle.std.proofs.Common.{◌≡◌, ◌≤◌, map}
use Rattle.std.specs.Prelude.{vec_capacity}
use Rattle.std.specs.List.{range_with_len}
use Rattle.pot_machine.specs.Making.{column_home}
use Rattle.pot_machine.proofs.making.columns_from.Given as goal

abbrev pub invariant-loop-column : goal.invariant-loop-column
invariant-loop-column l = record {
  items : l.columns.items ≡ map column_home (range_with_len l.first l.column);
  room : l.width ≤ vec_capacity l.columns;
}
