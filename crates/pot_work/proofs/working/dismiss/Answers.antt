use Rattle.std.proofs.Common.{◌∙◌}
use Rattle.pot_work.proofs.Claiming.{merges}
use Rattle.pot_work.proofs.Hiring.{some_left, ended_within, dismissing_more, each_last, HasEnded}
use Rattle.pot_work.proofs.working.dismiss.Goals as goal

pub absorb-requires-clause-queue : goal.absorb-requires-clause-queue
absorb-requires-clause-queue g c =
    let d = c.loop-worker.invariant in (d.own, (each_last (HasEnded _ _ _ _) _ _ _ d.worked c.in-Some.ensures.items).0)

pub absorb-requires-clause-rule : goal.absorb-requires-clause-rule
absorb-requires-clause-rule g c = merges _ _ _ _ (some_left _ _ _ _ _ _ _ c.loop-worker.invariant)

pub place_finished-requires : goal.place_finished-requires
place_finished-requires g c = record { within = ended_within _ _ _ _ _ _ _ _ _ c.loop-worker.invariant c.in-Some.ensures.items }

pub loop-worker-preserved : goal.loop-worker-preserved
loop-worker-preserved g c =
    let d = c.loop-worker.invariant in
    let joined = c.absorb.ensures in
    dismissing_more _ _ _ _ _ _ _ _ _ _ _ d c.in-Some.ensures.items (joined.queue.0 ∙ d.own.0, joined.queue.2 ∙ d.own.1) joined.rule c.place_finished.ensures
