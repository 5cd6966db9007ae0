use Rattle.std.proofs.Common.{refl}
use Rattle.std.specs.List.{IsDistinct}
use Rattle.pot_gf.proofs.tests.polynomials.Goals as goal

pub interpolate-through-requires-clause-distinct : goal.interpolate-through-requires-clause-distinct
unfolding IsDistinct
interpolate-through-requires-clause-distinct g c = ((refl, (refl, tt)), ((refl, tt), (tt, tt)))

pub vanish-vanishing-requires-clause-distinct : goal.vanish-vanishing-requires-clause-distinct
unfolding IsDistinct
vanish-vanishing-requires-clause-distinct g c = ((refl, tt), (tt, tt))
