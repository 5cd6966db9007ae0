use Rattle.pot_bench.specs.Rows.{KeepsRows}
use Rattle.pot_bench.proofs.rows.Rows.repeat.Given as goal

abbrev pub invariant-loop : goal.invariant-loop
invariant-loop l = KeepsRows l.initial.self l.self
