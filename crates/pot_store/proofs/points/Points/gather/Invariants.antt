use Rattle.pot_store.specs.Points.{AreGathered}
use Rattle.pot_store.proofs.points.Points.gather.Given as goal

abbrev pub invariant-loop-x : goal.invariant-loop-x
invariant-loop-x l = AreGathered l.x l.self l.shares
