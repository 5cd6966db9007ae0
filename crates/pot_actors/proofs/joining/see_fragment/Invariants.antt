use Rattle.std.proofs.Common.{◌≡◌}
use Rattle.pot_actors.specs.Joins.{shared_to}
use Rattle.pot_actors.proofs.joining.see_fragment.Given as goal

abbrev pub invariant-loop-point : goal.invariant-loop-point
invariant-loop-point l = l.shares ≡ shared_to l.kept l.gathered l.piece l.fragment l.point
