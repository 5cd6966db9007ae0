use Rattle.std.proofs.Common.{length, take, ◌≡◌, arith}
use Rattle.std.specs.Ordering.{nat_cmp}
use Rattle.std.specs.BTreeMap.{get}
use Rattle.std.proofs.Math.Seq.{take-length}
use Rattle.pot_doubles.proofs.LossLemmas.{loses_listed}
use Rattle.pot_doubles.proofs.losses.lose_listed.Goals as goal

pub returns-clause-loses : goal.returns-clause-loses
returns-clause-loses c =
    let whole : take c.loop-loss.loss-index c.args.losses.now ≡ c.args.losses.now =
    let e : c.loop-loss.loss-index ≡ length c.args.losses.now = omega arith in rw e (take-length c.args.losses.now)
    in
    loses_listed c.args.losses.now c.args.call (get nat_cmp c.args.blocks.now) (get nat_cmp c.loop-loss.blocks) c.args.lost.now c.loop-loss.lost
    c.loop-loss.invariant.range (rw whole at c.loop-loss.invariant.blocks) (rw whole at c.loop-loss.invariant.count)
