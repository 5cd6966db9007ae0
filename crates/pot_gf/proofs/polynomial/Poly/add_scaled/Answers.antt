use Rattle.std.proofs.Common.{subst, sym}
use Rattle.pot_gf.specs.Polynomials.{IsPoly}
use Rattle.pot_gf.proofs.Polys.{IsPoly-added}
use Rattle.pot_gf.proofs.polynomial.Poly.add_scaled.Goals as goal

pub invariant_of-self : goal.invariant_of-self
invariant_of-self c = subst IsPoly (sym c.add_weighted.ensures) (IsPoly-added c.args.factor _ _ c.self.invariant c.other.invariant)

pub returns-clause-is_poly : goal.returns-clause-is_poly
returns-clause-is_poly c = invariant_of-self c
