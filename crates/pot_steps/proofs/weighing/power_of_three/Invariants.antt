use Rattle.std.proofs.Common.{◌≡◌}
use Rattle.pot_gf.specs.Field.{power}
use Rattle.pot_steps.proofs.weighing.power_of_three.Given as goal

abbrev pub invariant-loop : goal.invariant-loop
invariant-loop l = l.power ≡ power 3 l.counter
