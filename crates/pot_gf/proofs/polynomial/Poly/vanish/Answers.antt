use Rattle.std.proofs.Common.{◌≡◌, ◌<◌, ℕ, length, subst, sym, arith, add-one}
use Rattle.std.proofs.lemmas.List.Elements.{All-get_or}
use Rattle.pot_gf.proofs.Built.{IsVanishing, vanishing_none, vanishing_more}
use Rattle.pot_gf.proofs.Vanishing.{only_vanishing}
use Rattle.pot_gf.proofs.polynomial.Poly.vanish.Goals as goal

pub loop-point-init : goal.loop-point-init
loop-point-init c =
    (subst (IsVanishing c.args.points.now 0) (sym c.constant-result.ensures.value) (vanishing_none c.args.points.now), c.constant-result.ensures.is_poly)

pub loop-point-preserved : goal.loop-point-preserved
loop-point-preserved c = (
  rw add-one (vanishing_more c.args.points.now c.loop-point.point-index c.inv.result c.loop-point.result c.times_line-result.result c.loop-point.invariant.0 c.inv.ensures.inverse c.times_line-result.ensures.value),
  c.times_line-result.ensures.is_poly,
)

pub returns-clause-vanishing : goal.returns-clause-vanishing
returns-clause-vanishing c =
    let points = c.args.points.now in
    let p = c.loop-point.result in
    let v = c.loop-point.invariant.0 in
    let all : c.loop-point.point-index ≡ length points = omega arith in
    only_vanishing points p (λ k. (c.type_inv.points k).fits) c.loop-point.invariant.1.bytes c.requires.distinct
    (λ i lt. All-get_or (λ (x : ℕ). 0 < x) points i 0 lt c.requires.not_zero)
    v.one (λ i lt. v.zeros i (omega arith)) (λ t le. v.degree t (omega arith))
