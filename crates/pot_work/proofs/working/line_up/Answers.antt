use Rattle.std.proofs.Common.{ap, arith, ◌∙◌, sym, length}
use Rattle.pot_work.proofs.Claiming.{puts, few}
use Rattle.pot_work.proofs.Finishing.{lined_room}
use Rattle.pot_work.proofs.working.line_up.Goals as goal

pub push_as-requires-clause-rule : goal.push_as-requires-clause-rule
push_as-requires-clause-rule g c =
    let l = c.loop-job.invariant.1 in
    (puts _ _ (ap (λ v. v.parts) l.is) _ _ _ (l.at ∙ ap (λ v. length v.jobs) (sym l.is)), few _ _ (let p = ap (λ v. v.parts) l.is in omega (arith, p)))

pub unreachable-requires : goal.unreachable-requires
unreachable-requires g c =
    let held = c.in_default-push_as.ensures.rule.2 in
    lined_room _ _ _ _ _ _ held.0 c.loop-job.invariant.1 c.in-Some.ensures.items (held.1 ∙ c.requires.room) held.2
