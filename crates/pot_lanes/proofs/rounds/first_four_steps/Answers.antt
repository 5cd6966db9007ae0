use Rattle.std.proofs.Common.{ap, ◌∙◌, arith}
use Rattle.sha2.specs.Sha256.{rounds, schedule}
use Rattle.pot_lanes.proofs.rounds.first_four_steps.Goals as goal

pub returns : goal.returns
returns c = λ l lt b h ready held.
    let after = rounds h (schedule b 48) in
    let s1 = c.first_step-v.ensures l lt b h ready held in
    let s2 = c.first_step-v-2.ensures l lt b h ready s1 in
    let s3 = c.first_step-v-3.ensures l lt b h ready (s2 ∙ ap after (omega arith)) in
    c.first_step.ensures l lt b h ready (s3 ∙ ap after (omega arith)) ∙ ap after (omega arith)
