use Rattle.std.proofs.Common.{◌≡◌, ◌++◌, drop}
use Rattle.pot_audit.specs.Loose.{loose_columns, loose_from}
use Rattle.pot_audit.proofs.loose.loose_columns.Given as goal

abbrev pub invariant-loop-group : goal.invariant-loop-group
invariant-loop-group l =
    l.columns.items ++ loose_from l.rack l.spots l.records l.group (drop l.group l.tables) ≡ loose_columns l.rack l.spots l.tables l.records
