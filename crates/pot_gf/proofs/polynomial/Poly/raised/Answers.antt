use Rattle.std.proofs.Common.{subst, sym, ap, ◌∷◌, append-nil, ◌∙◌}
use Rattle.pot_gf.specs.Polynomials.{IsPoly}
use Rattle.pot_gf.proofs.Polys.{IsPoly-raised}
use Rattle.pot_gf.proofs.polynomial.Poly.raised.Goals as goal

pub invariant_of-result : goal.invariant_of-result
invariant_of-result c =
    subst IsPoly (ap (λ p. 0 ∷ p) (sym (append-nil c.copy_from_slice.new.self ∙ c.copy_from_slice.ensures.after))) (IsPoly-raised c.self.inside.coefficients c.self.invariant)

pub returns-clause-is_poly : goal.returns-clause-is_poly
returns-clause-is_poly c =
    subst IsPoly (ap (λ p. 0 ∷ p) (sym (append-nil c.copy_from_slice.new.self ∙ c.copy_from_slice.ensures.after))) (IsPoly-raised c.self.inside.coefficients c.self.invariant)
