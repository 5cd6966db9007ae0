use Rattle.pot_gf.proofs.LagrangeLemmas.{IsGathering}
use Rattle.pot_gf.proofs.lagrange.weight_at_zero.Given as goal

abbrev pub invariant-loop-other : goal.invariant-loop-other
invariant-loop-other l = IsGathering l.points l.point l.other-index l.above l.below
