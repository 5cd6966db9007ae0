use Rattle.std.specs.Vec.{vec_len}
use Rattle.pot_work.proofs.Places.{Placing}
use Rattle.pot_work.proofs.placing.place_finished.Given as goal

abbrev pub invariant-loop-position : goal.invariant-loop-position
invariant-loop-position g l = Placing g.J.Job.done g.J.Job.related l.fn.finished.items l.fn.places.items l.finished.items l.places.items

abbrev pub decreases-loop-position : goal.decreases-loop-position
decreases-loop-position g l = vec_len l.finished
