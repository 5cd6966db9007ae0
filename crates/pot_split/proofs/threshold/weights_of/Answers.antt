use Rattle.std.proofs.Common.{◌≢◌, ◌<◌, length, arith, ◌∙◌, below_more, get_or-set_other, get_or-set_same}
use Rattle.std.proofs.Math.ListN.{length-set}
use Rattle.pot_split.proofs.threshold.weights_of.Goals as goal

pub loop-i-preserved : goal.loop-i-preserved
loop-i-preserved c =
    let lt : c.loop-i.i < length c.loop-i.weights = omega (arith, c.loop-i.invariant.1) in (
      below_more _ _
          (λ k h. let ne : k ≢ c.loop-i.i = omega arith in rw get_or-set_other (c.loop-i.invariant.0 k h))
          (rw get_or-set_same c.weight_at_zero.ensures),
      length-set c.loop-i.weights c.loop-i.i c.weight_at_zero.result ∙ c.loop-i.invariant.1,
    )
