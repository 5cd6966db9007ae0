use Rattle.std.proofs.Common.{◌≡◌, ◌++◌}
use Rattle.std.specs.List.{flat_map, range_with_len}
use Rattle.pot_audit.specs.Loose.{loose_column}
use Rattle.pot_audit.proofs.loose.add_group.Given as goal

abbrev pub invariant-loop-column : goal.invariant-loop-column
invariant-loop-column l =
    l.columns.items ≡ l.fn.columns.items ++ flat_map (loose_column l.coalition.rack.now l.coalition.spots.now l.records l.table l.group) (range_with_len 0 l.column)
