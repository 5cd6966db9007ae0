use Rattle.std.proofs.Common.{subst}
use Rattle.pot_index.specs.Ending.{StepsEnd}
use Rattle.pot_index.proofs.EndingLemmas.{loop_step}
use Rattle.pot_index.proofs.ending.end_of.Goals as goal

pub loop-at-preserved : goal.loop-at-preserved
loop-at-preserved c =
    let entry = c.index-log-at.result in
    loop_step c.args.job c.args.name.now c.args.log.now c.loop-at.at entry c.loop-at.ended c.ended_with-ended.result c.loop-at-test.true c.loop-at.invariant
    (subst (λ e. StepsEnd c.args.job c.args.name.now e c.loop-at.at c.loop-at.ended c.ended_with-ended.result) c.index-log-at.is c.ended_with-ended.ensures)
