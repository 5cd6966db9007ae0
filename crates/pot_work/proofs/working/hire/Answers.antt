use Rattle.std.proofs.Common.{◌∙◌, refl}
use Rattle.pot_work.proofs.Claiming.{forks}
use Rattle.pot_work.proofs.Hiring.{some_parts, hiring_more}
use Rattle.pot_work.proofs.working.hire.Goals as goal

pub another-claim-requires-clause-rule : goal.another-claim-requires-clause-rule
another-claim-requires-clause-rule g c = forks _ _ (some_parts _ _ _ _ _ _ _ _ _ _ c.loop-finished.invariant c.in-Some.ensures.items)

pub loop-finished-preserved : goal.loop-finished-preserved
loop-finished-preserved g c =
    let h = c.loop-finished.invariant in
    let made = c.another-claim.ensures in
    hiring_more _ _ _ _ _ _ _ _ _ _ _ _ (record { claim = c.another-claim.result; finished = c.in-Some.finished }) h c.in-Some.ensures.items
    (made.queue.0.0 ∙ h.own.0, made.queue.0.2 ∙ h.own.1) made.rule.0 made.queue.1 made.rule.1 refl c.push_reserved.ensures.items c.push_reserved.ensures.capacity
