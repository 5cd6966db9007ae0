use Rattle.std.proofs.Common.{sym, subst}
use Rattle.pot_recover.specs.Fronts.{FrontsRise}
use Rattle.pot_recover.proofs.FrontLemmas.{objects_rise}
use Rattle.pot_recover.proofs.top.Recovered.first_with.Goals as goal

pub first_front-requires : goal.first_front-requires
first_front-requires c = subst FrontsRise (sym c.as_slice.ensures.value) (objects_rise c.self.inside.objects.items c.self.invariant)
