use Rattle.std.specs.Vec.{vec_len}
use Rattle.crossbeam_queue.specs.Passes.{view, IsPassOf}
use Rattle.pot_work.proofs.Hiring.{Dismissing}
use Rattle.pot_work.proofs.working.dismiss.Given as goal

abbrev pub invariant-loop-worker : goal.invariant-loop-worker
invariant-loop-worker g l = Dismissing g.J.Job.done g.J.Job.related (IsPassOf l.line) (view l.fn.claim).jobs l.claim l.workers.items l.places.items

abbrev pub decreases-loop-worker : goal.decreases-loop-worker
decreases-loop-worker g l = vec_len l.workers
