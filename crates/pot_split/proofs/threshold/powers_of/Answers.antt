use Rattle.std.proofs.Common.{◌≡◌, ◌≢◌, ◌<◌, suc, ◌+◌, length, arith, ap, ◌∙◌, refl, below_more, get_or-set_other, get_or-set_same}
use Rattle.std.proofs.Math.ListN.{length-set}
use Rattle.pot_bytes.specs.Product.{byte_product}
use Rattle.pot_gf.specs.Field.{power}
use Rattle.pot_split.proofs.threshold.powers_of.Goals as goal

pub loop-t-init : goal.loop-t-init
unfolding power
loop-t-init c = ((λ k lt. absurd (omega arith)), refl, refl)

pub loop-t-preserved : goal.loop-t-preserved
unfolding power
loop-t-preserved c =
    let next : c.mul-power.result ≡ power c.args.point (c.loop-t.t + 1) =
    c.mul-power.ensures ∙ ap (byte_product c.args.point) c.loop-t.invariant.1 ∙ ap (power c.args.point) (let e : suc c.loop-t.t ≡ c.loop-t.t + 1 = omega arith in e) in
    let lt : c.loop-t.t < length c.loop-t.powers = omega (arith, c.loop-t.invariant.2) in (
      below_more _ _
          (λ k h. let ne : k ≢ c.loop-t.t = omega arith in rw get_or-set_other (c.loop-t.invariant.0 k h))
          (rw get_or-set_same next),
      next,
      length-set c.loop-t.powers c.loop-t.t c.mul-power.result ∙ c.loop-t.invariant.2,
    )
