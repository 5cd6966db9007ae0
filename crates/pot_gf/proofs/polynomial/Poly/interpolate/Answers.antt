use Rattle.std.proofs.Common.{◌≡◌, ◌≤◌, ℕ, ◌-◌, ◌+◌, get_or, length, subst, sym, arith, add-one}
use Rattle.pot_gf.proofs.Built.{IsThrough, IsNode, through_first, through_more, node_none, node_at, distinct_apart}
use Rattle.pot_gf.proofs.Zeros.{unique_law}
use Rattle.pot_gf.proofs.polynomial.Poly.interpolate.Goals as goal

pub loop-i-init : goal.loop-i-init
loop-i-init c = (
  subst (IsThrough c.args.points.now c.args.values.now 1) (sym c.constant-result.ensures.value) (through_first c.args.points.now c.args.values.now (λ k. (c.type_inv.values k).fits)),
  subst (IsNode c.args.points.now 0) (sym c.constant-node.ensures.value) (node_none c.args.points.now),
  c.constant-result.ensures.is_poly,
)

pub meet-requires : goal.meet-requires
meet-requires c =
    (node_at c.args.points.now c.loop-i.i c.loop-i.node c.times_line-node.result c.loop-i.auto.i (λ k. (c.type_inv.points k).fits) c.loop-i.invariant.1 c.times_line-node.ensures.value).others
    (get_or c.args.points.now c.loop-i.i 0) (c.type_inv.points c.loop-i.i).fits
    (λ j lt. distinct_apart c.args.points.now j c.loop-i.i c.requires.distinct lt c.loop-i-test.true)

pub loop-i-preserved : goal.loop-i-preserved
loop-i-preserved c =
    let node = node_at c.args.points.now c.loop-i.i c.loop-i.node c.times_line-node.result c.loop-i.auto.i (λ k. (c.type_inv.points k).fits) c.loop-i.invariant.1 c.times_line-node.ensures.value in (
      rw add-one (through_more c.args.points.now c.args.values.now c.loop-i.i c.loop-i.result c.meet.new.self c.times_line-node.result c.loop-i.invariant.0 node c.meet.ensures.value),
      subst (λ k. IsNode c.args.points.now k c.times_line-node.result) (let e : c.loop-i.i ≡ c.loop-i.i + 1 - 1 = omega arith in e) node,
      c.meet.ensures.is_poly,
    )

pub returns-clause-only : goal.returns-clause-only
returns-clause-only c q bytes degree through =
    let e : c.loop-i.i ≡ length c.args.points.now = omega arith in
    unique_law c.args.points.now c.args.values.now q c.loop-i.result (λ k. (c.type_inv.points k).fits) bytes c.loop-i.invariant.2.bytes c.requires.distinct degree
    (subst (λ n. (t : ℕ) → n ≤ t → get_or c.loop-i.result t 0 ≡ 0) e c.loop-i.invariant.0.degree) through (λ j lt. c.loop-i.invariant.0.at j (omega arith))
