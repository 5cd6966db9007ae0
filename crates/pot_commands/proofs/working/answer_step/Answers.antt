use Rattle.std.proofs.Common.{arith}
use Rattle.pot_shared.specs.Works.{known}
use Rattle.pot_commands.specs.Sharing.{common_of}
use Rattle.pot_commands.proofs.DrawnLemmas.{command_blinds}
use Rattle.pot_commands.proofs.Going.{work_all_went}
use Rattle.pot_commands.proofs.StepLemmas.{fewer_parts, one_job, one_says, one_took, one_worked, together_jobs, together_says, together_took, together_worked, work_stays}
use Rattle.pot_commands.proofs.working.answer_step.Goals as goal

pub answer-requires-clause-parts : goal.answer-requires-clause-parts
answer-requires-clause-parts g c = λ κs within. fewer_parts 1 2048 _ (omega arith) c.requires.parts.0

pub answer-requires-clause-job : goal.answer-requires-clause-job
answer-requires-clause-job g c = λ κs within. (c.requires.job.0, one_job c.args.step.now c.in-One.command c.in-One.is c.args.job c.requires.job.1)

pub answer-requires-clause-worked : goal.answer-requires-clause-worked
answer-requires-clause-worked g c = λ κs within. one_worked c.args.step.now c.in-One.command c.in-One.is _ c.requires.worked

pub returns-in-One-clause-went : goal.returns-in-One-clause-went
returns-in-One-clause-went g c = work_all_went c.args.job _ _ c.answer.ensures.worked

pub returns-in-One-clause-stays : goal.returns-in-One-clause-stays
returns-in-One-clause-stays g c =
    work_stays c.args.crew.now.shared.vault.now.rack c.args.crew.now.shared.vault.now.groups c.args.crew.now.shared.vault.now.index c.args.job _ _ _ _ c.requires.can.ready c.answer.ensures.can.ready c.requires.can.index_ready c.answer.ensures.can.index_ready c.answer.ensures.worked

pub returns-in-One-clause-says : goal.returns-in-One-clause-says
returns-in-One-clause-says g c =
    one_says c.args.step.now c.in-One.command c.in-One.is _ _ _ c.args.job _ _ c.answer.ensures.worked c.answer.result c.answer.ensures.asked c.answer.ensures.says

pub returns-in-One-clause-took : goal.returns-in-One-clause-took
returns-in-One-clause-took g c =
    one_took c.args.step.now c.in-One.command c.in-One.is _ _ _ _ _ _ c.answer.ensures.took

pub answer_together-requires-clause-parts : goal.answer_together-requires-clause-parts
answer_together-requires-clause-parts g c = λ κs within.
    let most = (together_worked c.args.step.now c.in-Together.lines _ c.in-Together.is c.as_slice.ensures _ c.requires.worked).1 in
    (fewer_parts _ 2048 _ (omega (arith, most)) c.requires.parts.0, fewer_parts _ 2048 _ (omega (arith, most)) c.requires.parts.1)

pub answer_together-requires-clause-job : goal.answer_together-requires-clause-job
answer_together-requires-clause-job g c = λ κs within.
    (c.requires.job.0, together_jobs c.args.step.now c.in-Together.lines _ c.in-Together.is c.as_slice.ensures c.args.job c.requires.job.1)

pub answer_together-requires-clause-batched : goal.answer_together-requires-clause-batched
answer_together-requires-clause-batched g c = λ κs within.
    (together_worked c.args.step.now c.in-Together.lines _ c.in-Together.is c.as_slice.ensures _ c.requires.worked).2

pub returns-in-Together-clause-says : goal.returns-in-Together-clause-says
returns-in-Together-clause-says g c =
    together_says c.args.step.now c.in-Together.lines _ c.in-Together.is c.as_slice.ensures c.args.crew.now.shared.vault.now.rack c.args.crew.now.shared.seed.now c.args.crew.now.shared.session c.args.job
    (known c.args.passes.now.groups c.args.passes.now.index) (known c.answer_together.new.passes.groups c.answer_together.new.passes.index) c.answer_together.result c.answer_together.ensures.says

pub returns-in-Together-clause-took : goal.returns-in-Together-clause-took
returns-in-Together-clause-took g c = together_took c.args.step.now c.in-Together.lines _ c.in-Together.is c.as_slice.ensures _ _ _ _ _ _ c.answer_together.ensures.took

pub returns-in-One-clause-blinds : goal.returns-in-One-clause-blinds
returns-in-One-clause-blinds g c =
    command_blinds (common_of c.args.crew.now.shared) c.args.job c.in-One.command (known c.args.passes.now.groups c.args.passes.now.index) (known c.answer.new.passes.groups c.answer.new.passes.index)
    c.requires.filled c.answer.ensures.worked c.answer.ensures.blinds c.answer.result c.answer.ensures.says
