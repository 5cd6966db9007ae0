use Rattle.std.proofs.Common.{◌-◌}
use Rattle.pot_gf.specs.Polynomials.{IsPoly}
use Rattle.pot_gf.proofs.Built.{IsThrough, IsNode}
use Rattle.pot_gf.proofs.polynomial.Poly.interpolate.Given as goal

abbrev pub invariant-loop-i : goal.invariant-loop-i
invariant-loop-i l = IsThrough l.points l.values l.i l.result × IsNode l.points (l.i - 1) l.node × IsPoly l.result
