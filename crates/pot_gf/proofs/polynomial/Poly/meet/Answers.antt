use Rattle.std.proofs.Common.{subst, sym, ap, ◌∙◌, bit_xor}
use Rattle.pot_bytes.specs.Product.{byte_product}
use Rattle.pot_gf.specs.Polynomials.{Meets}
use Rattle.pot_gf.proofs.Polys.{meeting}
use Rattle.pot_gf.proofs.Values.{value-below}
use Rattle.pot_gf.proofs.polynomial.Poly.meet.Goals as goal

pub returns-clause-value : goal.returns-clause-value
returns-clause-value c =
    subst (Meets c.args.point c.args.wanted c.args.node.now c.args.self.now) (sym c.add_scaled.ensures.value)
    (meeting c.args.point c.args.wanted c.mul.result c.inv.result c.args.node.now c.args.self.now c.eval-2.ensures.is_poly c.eval.ensures.is_poly c.ranges.wanted.fits
    (ap (λ z. byte_product z c.inv.result) (sym c.eval-2.ensures.value) ∙ c.inv.ensures.inverse)
    (value-below c.args.self.now c.args.point)
    (c.mul.ensures ∙ ap (λ z. byte_product (bit_xor c.args.wanted z) c.inv.result) c.eval.ensures.value))
