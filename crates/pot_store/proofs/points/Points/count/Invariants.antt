use Rattle.std.proofs.Common.{◌≡◌}
use Rattle.pot_machine.specs.Table.{count}
use Rattle.pot_store.specs.Visits.{was_seen}
use Rattle.pot_store.specs.Points.{came_in}
use Rattle.pot_store.proofs.points.Points.count.Given as goal

abbrev pub invariant-loop-x : goal.invariant-loop-x
invariant-loop-x l = l.seen ≡ count l.x (λ y. was_seen (came_in l.self y))
