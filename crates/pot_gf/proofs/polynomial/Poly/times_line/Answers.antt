use Rattle.std.proofs.Common.{subst, sym, ap, ap₂, ◌∙◌}
use Rattle.pot_bytes.specs.Sums.{xor}
use Rattle.pot_bytes.specs.Weighted.{scaled}
use Rattle.pot_gf.specs.Polynomials.{IsTimesLine}
use Rattle.pot_gf.proofs.Polys.{line}
use Rattle.pot_gf.proofs.polynomial.Poly.times_line.Goals as goal

pub returns-clause-value : goal.returns-clause-value
returns-clause-value c =
    subst (IsTimesLine c.args.constant c.args.slope c.args.self.now)
    (sym (c.add_scaled-2.ensures.value
    ∙ ap₂ (λ p q. xor p (scaled c.args.slope q)) (c.add_scaled.ensures.value ∙ ap (λ p. xor p (scaled c.args.constant c.args.self.now)) c.zero-product.ensures.value) c.raised.ensures.value))
    (line c.args.constant c.args.slope c.args.self.now c.raised.ensures.from_poly c.requires)
