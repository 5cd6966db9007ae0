use Rattle.pot_gf.specs.Polynomials.{IsPoly}
use Rattle.pot_gf.proofs.Built.{IsVanishing}
use Rattle.pot_gf.proofs.polynomial.Poly.vanish.Given as goal

abbrev pub invariant-loop-point : goal.invariant-loop-point
invariant-loop-point l = IsVanishing l.points l.point-index l.result × IsPoly l.result
