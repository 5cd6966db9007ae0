use Rattle.std.proofs.Common.{◌≤◌, length, take}
use Rattle.std.specs.Prelude.{vec_capacity}
use Rattle.pot_recheck.specs.Finding.{AreFoundTables}
use Rattle.pot_recheck.proofs.finding.found_tables.Given as goal

abbrev pub invariant-loop-group : goal.invariant-loop-group
invariant-loop-group l = record {
  space : length l.tables ≤ vec_capacity l.made;
  found : AreFoundTables l.found (take l.group l.tables) l.made.items;
}
