use Rattle.std.proofs.Common.{◌≤◌}
use Rattle.pot_looks.specs.Looks.{IsLooked}
use Rattle.pot_looks.proofs.looking.look.Given as goal

abbrev pub invariant-loop-stripe : goal.invariant-loop-stripe
invariant-loop-stripe l = record {
  looked : IsLooked (record { table = l.table; column = l.column; archive = l.archive; bytes = l.bytes }) l.stripe l.looked;
  compared : l.looked.compared ≤ l.stripe;
  damaged : l.looked.damaged ≤ l.stripe;
  missing : l.looked.missing ≤ l.stripe;
}
