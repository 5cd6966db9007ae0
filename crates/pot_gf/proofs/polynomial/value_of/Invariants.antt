use Rattle.std.proofs.Common.{◌≡◌, drop}
use Rattle.pot_gf.specs.Polynomials.{value}
use Rattle.pot_gf.proofs.polynomial.value_of.Given as goal

abbrev pub invariant-loop-t : goal.invariant-loop-t
invariant-loop-t l = l.sum ≡ value (drop l.t l.coefficients) l.x
