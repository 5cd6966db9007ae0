use Rattle.std.proofs.Common.{◌≡◌, ◌∙◌, ◌<◌, length, arith}
use Rattle.std.proofs.lemmas.Option.{slice_get_within, slice_get-get_or, get_or_from_slice_get}
use Rattle.crossbeam_queue.specs.Passes.{IsPassOf}
use Rattle.pot_work.proofs.Hiring.{ended_one}
use Rattle.pot_work.proofs.working.work_on_threads.Goals as goal

pub returns-clause-worked : goal.returns-clause-worked
returns-clause-worked g c = λ k x at.
    let lt : k < length c.for_each_mut.new.s = slice_get_within _ k x at in
    let same : length c.for_each_mut.new.s ≡ length c.args.workers.now = c.for_each_mut.auto.s in
    let lt' : k < length c.args.workers.now = omega (arith, lt, same) in
    let one = (c.for_each_mut.ensures k x lt').1 in
    let hired = c.requires.hired k _ (slice_get-get_or c.args.workers.now k x lt') in
    ended_one g.J.Job.done g.J.Job.related (IsPassOf c.args.line.now) _ _ _ _ x hired.1.is one.argument_is (one.left ∙ get_or_from_slice_get _ k x x at) one.call
