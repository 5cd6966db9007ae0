use Rattle.std.proofs.Common.{◌≡◌, ◌+◌, ◌^◌, length, take, refl, ap, ◌∙◌, arith}
use Rattle.std.specs.Prelude.{Ok, Err}
use Rattle.std.proofs.Math.Seq.{take-length}
use Rattle.pot_outside.specs.Accounts.{transition}
use Rattle.pot_shared.specs.Works.{known}
use Rattle.pot_commands.specs.Sharing.{common_of}
use Rattle.pot_commands.specs.Steps.{step_of}
use Rattle.pot_commands.proofs.DrawnLemmas.{blind_below, none_below}
use Rattle.pot_commands.proofs.WorkingLemmas.{begins_working, all_took, ends_took, index_parts_stay, jobs_fit, new_stays, new_went, parts_stay, working_ends, working_more}
use Rattle.pot_commands.proofs.working.work.Goals as goal

pub loop-step-init : goal.loop-step-init
loop-step-init g c = record {
  working = begins_working _ _ _ _ _ _ _ _ c.args.crew.now.shared.vault.now.groups c.args.crew.now.shared.vault.now.index _ _ c.requires.can.ready c.requires.can.index_ready c.requires.filled;
  blind = none_below (common_of c.args.crew.now.shared) 1 (known c.args.passes.now.groups c.args.passes.now.index);
  can = c.requires.can;
  used = c.requires.used;
  room_later = omega arith;
  room_own = refl;
  later = omega arith;
}

pub returns-in-Err-clause-went : goal.returns-in-Err-clause-went
returns-in-Err-clause-went g c =
    let i = c.loop-step.invariant in
    new_went _ _ _ _ _ _ _ _ _ _ _ _ _ (g.R.Room.meaning c.work_one.new.room) _ _ _ i.working c.step-item.result c.loop-step-test.true c.step-item.is c.work_one.ensures.went c.work_one.ensures.stays

pub returns-in-Err-clause-ends : goal.returns-in-Err-clause-ends
returns-in-Err-clause-ends g c =
    let i = c.loop-step.invariant in
    working_ends _ _ _ _ _ _ _ _ _ _ _ _ _ (g.R.Room.meaning c.work_one.new.room) _ _ _ i.working c.step-item.result c.loop-step-test.true c.step-item.is c.work_one.ensures.went c.work_one.ensures.stays
    _ _ c.in-Err.ensures.ends

pub returns-in-Err-clause-took : goal.returns-in-Err-clause-took
returns-in-Err-clause-took g c =
    let i = c.loop-step.invariant in
    ends_took _ _ _ _ _ _ _ _ _ _ _ _ _ (g.R.Room.meaning c.work_one.new.room) _ _ _ i.working c.step-item.result c.loop-step-test.true c.step-item.is c.work_one.ensures.went c.work_one.ensures.stays
    _ _ (λ w e. w (cc e)) c.in-Err.ensures.took

pub returns-clause-took : goal.returns-clause-took
returns-clause-took g c =
    let last : c.loop-step.step-index ≡ length c.args.steps.now = omega (arith, c.loop-step-test.false, c.loop-step.auto.step-index-end) in
    all_took _ _ _ _ _ _ _ _ _ _ _ _ _ _ _ _ c.loop-step.invariant.working (ap (λ n. take n c.args.steps.now) last ∙ take-length c.args.steps.now)

pub loop-step-preserved : goal.loop-step-preserved
loop-step-preserved g c =
    let i = c.loop-step.invariant in
    record {
      working =
          working_more _ _ _ _ _ _ _ _ _ _ _ _ _ (g.R.Room.meaning c.work_one.new.room) _ _ _ i.working c.step-item.result c.loop-step-test.true c.step-item.is c.work_one.ensures.went c.work_one.ensures.stays
          _ c.in-Ok.some _ (λ e. cc) c.in-Ok.ensures.took c.in-Ok.ensures.ends _ (ap (λ n. c.loop-step.job + n) c.jobs_in-job.ensures);
      blind = blind_below (common_of c.args.crew.now.shared) c.loop-step.job (step_of c.step-item.result) _ _ _ (transition g.K.Sink.account c.loop-step.sink c.work_one.new.sink) (Ok c.in-Ok.some)
          i.working.went c.work_one.ensures.went i.working.filled c.in-Ok.ensures.ends c.work_one.ensures.blinds i.blind _ (ap (λ n. c.loop-step.job + n) c.jobs_in-job.ensures);
      can = c.work_one.ensures.can;
      used = c.work_one.ensures.used;
      room_later = omega (arith, i.room_later, c.work_one.ensures.room.later);
      room_own = c.work_one.ensures.own.still (λ e. cc) ∙ i.room_own;
      later = omega (arith, i.later, c.work_one.ensures.sink.later);
    }

pub returns-in-Err-clause-stays : goal.returns-in-Err-clause-stays
returns-in-Err-clause-stays g c =
    let i = c.loop-step.invariant in
    new_stays _ _ _ _ _ _ _ _ _ _ _ _ _ (g.R.Room.meaning c.work_one.new.room) _ _ _ i.working c.step-item.result c.loop-step-test.true c.step-item.is c.work_one.ensures.went c.work_one.ensures.stays

pub work_one-requires-clause-parts : goal.work_one-requires-clause-parts
work_one-requires-clause-parts g c = λ κs within.
    let stays = c.loop-step.invariant.working.stays in
    (parts_stay _ _ 2048 stays c.requires.parts.0, index_parts_stay _ _ 2048 stays c.requires.parts.1)

pub work_one-requires-clause-job : goal.work_one-requires-clause-job
work_one-requires-clause-job g c = λ κs within.
    jobs_fit c.args.steps.now c.loop-step.step-index c.loop-step.job (2 ^ 31) c.step-item.result c.loop-step-test.true c.step-item.is c.loop-step.invariant.working.number c.requires.few

pub work_one-requires-clause-filled : goal.work_one-requires-clause-filled
work_one-requires-clause-filled g c = λ κs within. c.loop-step.invariant.working.filled

pub overflow_add-job : goal.overflow_add-job
overflow_add-job g c =
    let fits = jobs_fit c.args.steps.now c.loop-step.step-index c.loop-step.job (2 ^ 31) c.step-item.result c.loop-step-test.true c.step-item.is c.loop-step.invariant.working.number c.requires.few in
    let same = c.jobs_in-job.ensures in omega (arith, fits.1, same)

pub returns-in-Err-clause-blinds : goal.returns-in-Err-clause-blinds
returns-in-Err-clause-blinds g c =
    let i = c.loop-step.invariant in
    (blind_below (common_of c.args.crew.now.shared) c.loop-step.job (step_of c.step-item.result) _ _ _ (transition g.K.Sink.account c.loop-step.sink c.work_one.new.sink) (Err c.in-Err.ending)
    i.working.went c.work_one.ensures.went i.working.filled c.in-Err.ensures.ends c.work_one.ensures.blinds i.blind _ refl).blinds

pub returns-clause-blinds : goal.returns-clause-blinds
returns-clause-blinds g c = c.loop-step.invariant.blind.blinds
