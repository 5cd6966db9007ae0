use Rattle.std.specs.Vec.Iter.{into_iter_items, into_iter_len}
use Rattle.crossbeam_queue.specs.Passes.{view, IsPassOf}
use Rattle.pot_work.proofs.Finishing.{LinedUp}
use Rattle.pot_work.proofs.working.line_up.Given as goal

abbrev pub invariant-loop-job : goal.invariant-loop-job
invariant-loop-job g l = IsPassOf l.line l.claim × LinedUp l.fn.jobs.items (into_iter_items l.jobs) (view l.claim) l.position

abbrev pub decreases-loop-job : goal.decreases-loop-job
decreases-loop-job g l = into_iter_len l.jobs
