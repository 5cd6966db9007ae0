use Rattle.pot_work.proofs.Places.{no_gap}
use Rattle.pot_work.proofs.placing.gather.Goals as goal

pub unreachable-requires : goal.unreachable-requires
unreachable-requires g c = no_gap _ _ _ _ _ c.loop-place.invariant.0 c.in-Some.ensures.items c.in_default-place.is c.requires.full
