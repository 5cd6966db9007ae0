use Rattle.std.proofs.Common.{rules, ◌≡◌, ap, ◌∙◌, sym, subst, length}
use Rattle.std.specs.Prelude.{slice_get}
use Rattle.crossbeam_queue.specs.Passes.{view, IsPassOf}
use Rattle.pot_work.specs.Works.{ArePlaced, AllPlaced, AreFresh}
use Rattle.pot_work.specs.Rooms.{IsRoom}
use Rattle.pot_work.proofs.Hiring.{IsNew, whole}
use Rattle.pot_work.proofs.Places.{all_full, gathered}
use Rattle.pot_work.proofs.working.work_in_line.Goals as goal

pub hire-requires-clause-rooms : goal.hire-requires-clause-rooms
hire-requires-clause-rooms g c = λ k x at. subst (λ n. IsRoom n x) (sym (ap (λ v. length v.jobs) c.line_up.ensures.lined)) (c.requires.rooms.finished k x at)

pub work_on_threads-requires-clause-hired : goal.work_on_threads-requires-clause-hired
work_on_threads-requires-clause-hired g c = λ κs within k x at.
    subst (λ js. IsNew g.J.Job.done g.J.Job.related (IsPassOf c.args.rooms.line) js x) (sym (ap (λ v. v.jobs) c.hire.ensures.left)) (c.hire.ensures.hired k x (search rules))

pub dismiss-requires-clause-worked : goal.dismiss-requires-clause-worked
dismiss-requires-clause-worked g c = λ k x at.
    let long : length c.work_on_threads.new.workers ≡ length c.hire.new.workers.items = c.work_on_threads.ensures.many ∙ ap length c.as_mut_slice.ensures.value in
    c.work_on_threads.ensures.worked k x (ap (λ ys. slice_get ys k) (sym (whole _ _ _ long c.hire.new.workers.ok.0)) ∙ at)

pub work_what_is_left-requires-clause-fresh : goal.work_what_is_left-requires-clause-fresh
work_what_is_left-requires-clause-fresh g c = λ κs within.
    subst (AreFresh g.J.Job.done) (sym (c.dismiss.ensures.all.1 ∙ ap (λ v. v.jobs) c.hire.ensures.left ∙ ap (λ v. v.jobs) c.line_up.ensures.lined)) c.requires.fresh

pub work_what_is_left-requires-clause-placed : goal.work_what_is_left-requires-clause-placed
work_what_is_left-requires-clause-placed g c = λ κs within.
    subst (λ js. ArePlaced g.J.Job.done g.J.Job.related js (view c.dismiss.new.claim).taken c.dismiss.new.places.items) (sym c.dismiss.ensures.all.1) c.dismiss.ensures.placed

pub gather-requires-clause-full : goal.gather-requires-clause-full
gather-requires-clause-full g c = λ k x at. all_full _ _ _ _ c.work_what_is_left.ensures.placed k x at

pub returns : goal.returns
returns g c =
    let same = c.dismiss.ensures.all.1 ∙ ap (λ v. v.jobs) c.hire.ensures.left ∙ ap (λ v. v.jobs) c.line_up.ensures.lined in
    gathered _ _ _ _ _ (subst (λ js. AllPlaced g.J.Job.done g.J.Job.related js c.work_what_is_left.new.places.items) same c.work_what_is_left.ensures.placed) c.gather.ensures
