use Rattle.std.proofs.Common.{◌<◌, add-one, sym, ap, ap₂, ◌∙◌, subst}
use Rattle.pot_bytes.specs.Product.{byte_product}
use Rattle.pot_gf.specs.Field.{inverse}
use Rattle.pot_gf.specs.Lagrange.{lagrange_weight}
use Rattle.pot_gf.proofs.LagrangeLemmas.{gathering_begins, gathering_other, gathering_itself, gathering_ends, differences_some}
use Rattle.pot_gf.proofs.lagrange.weight_at_zero.Goals as goal
use Rattle.pot_gf.proofs.lagrange.weight_at_zero.Goals.{then-other-point, else-other-point}

pub loop-other-init : goal.loop-other-init
loop-other-init c = gathering_begins c.args.points.now c.args.point

pub loop-other-preserved : goal.loop-other-preserved
loop-other-preserved c = elim c.if-other-point.branch [
  | then-other-point w ↦ rw (add-one, w.above-is, w.below-is, w.mul-above.ensures, w.mul-below.ensures)
      (gathering_other c.args.points.now c.args.point c.loop-other.other-index c.loop-other.above c.loop-other.below c.loop-other-test.true w.if-other-point.true c.loop-other.invariant)
  | else-other-point w ↦ rw (add-one, w.above-is, w.below-is)
      (gathering_itself c.args.points.now c.args.point c.loop-other.other-index c.loop-other.above c.loop-other.below c.loop-other-test.true w.if-other-point.false c.loop-other.invariant)
]

pub inv-requires : goal.inv-requires
inv-requires c =
    subst (λ n. 0 < n) (sym (gathering_ends c.args.points.now c.args.point c.loop-other.other-index c.loop-other.above c.loop-other.below c.loop-other-test.false c.loop-other.invariant).1)
    (differences_some c.args.point c.args.points.now c.ranges.point.fits (λ k. (c.type_inv.points k).fits))

pub returns : goal.returns
unfolding lagrange_weight
returns c =
    let ends = gathering_ends c.args.points.now c.args.point c.loop-other.other-index c.loop-other.above c.loop-other.below c.loop-other-test.false c.loop-other.invariant in
    c.mul.ensures ∙ ap₂ byte_product ends.0 (c.inv.ensures.value ∙ ap inverse ends.1)
