use Rattle.std.specs.Prelude.{length}
use Rattle.std.specs.Vec.{vec_len}
use Rattle.crossbeam_queue.specs.Passes.{view, IsPassOf}
use Rattle.pot_work.proofs.Hiring.{Hiring}
use Rattle.pot_work.proofs.working.hire.Given as goal

abbrev pub invariant-loop-finished : goal.invariant-loop-finished
invariant-loop-finished g l = Hiring g.J.Job.done g.J.Job.related (IsPassOf l.line) (view l.fn.claim).jobs (length l.fn.rooms.items) l.claim l.rooms.items l.workers

abbrev pub decreases-loop-finished : goal.decreases-loop-finished
decreases-loop-finished g l = vec_len l.rooms
