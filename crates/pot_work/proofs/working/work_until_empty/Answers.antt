use Rattle.std.proofs.Common.{arith, ◌∙◌}
use Rattle.pot_work.proofs.Claiming.{takes, all}
use Rattle.pot_work.proofs.Finishing.{finished_more}
use Rattle.pot_work.proofs.working.work_until_empty.Goals as goal

pub pop_as-requires-clause-rule : goal.pop_as-requires-clause-rule
pop_as-requires-clause-rule g c =
    let has = c.requires.hired.some in
    let same = c.loop.invariant.1.parts in
    (takes _ _ (omega (arith, has, same)), all _ _)

pub loop-preserved : goal.loop-preserved
loop-preserved g c =
    let sofar = c.loop.invariant in
    let same = c.pop_as.ensures.queue in
    let capacity = c.push_reserved.ensures.capacity in (
      (same.0 ∙ sofar.0.0, same.2 ∙ sofar.0.1),
      finished_more _ _ _ _ _ (c.in-Some-pop_as.position, c.in-Some-pop_as.job) _ _ _ sofar.1 c.in-Some-pop_as.ensures.rule c.work_one.ensures.done c.work_one.ensures.left c.push_reserved.ensures.items,
      omega (arith, capacity, sofar.2),
    )
