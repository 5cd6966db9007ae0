use Rattle.std.proofs.Common.{◌≡◌, ◌≤◌, map}
use Rattle.std.specs.Prelude.{vec_capacity}
use Rattle.std.specs.List.{range_with_len}
use Rattle.pot_machine.specs.Making.{empty_table}
use Rattle.pot_session.proofs.init.empty_tables.Given as goal

abbrev pub invariant-loop-group : goal.invariant-loop-group
invariant-loop-group l = record {
  space : l.rack.groups ≤ vec_capacity l.tables;
  tables : l.tables.items ≡ map (empty_table l.rack) (range_with_len 0 l.group);
}
