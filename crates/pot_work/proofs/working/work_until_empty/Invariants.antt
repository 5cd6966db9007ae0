use Rattle.std.proofs.Common.{◌≤◌, length}
use Rattle.std.specs.Vec.{vec_capacity}
use Rattle.crossbeam_queue.specs.Passes.{view, IsPassOf}
use Rattle.pot_work.specs.Works.{HasFinished}
use Rattle.pot_work.proofs.working.work_until_empty.Given as goal

abbrev pub invariant-loop : goal.invariant-loop
invariant-loop g l =
    IsPassOf l.line l.worker.claim
    × HasFinished g.J.Job.done g.J.Job.related (view l.fn.worker.claim) (view l.worker.claim) l.worker.finished.items
    × (length (view l.fn.worker.claim).jobs ≤ vec_capacity l.worker.finished)
