use Rattle.pot_desk_shares.specs.Finding.{AreFound}
use Rattle.pot_desk_shares.proofs.joining.points_at.Given as goal

abbrev pub invariant-loop-point : goal.invariant-loop-point
invariant-loop-point l = AreFound l.shares l.head l.point l.points.items
