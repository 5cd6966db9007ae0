use Rattle.std.proofs.Common.{refl}
use Rattle.std.specs.List.{IsDistinct}
use Rattle.pot_split.proofs.tests.splits_by_threshold.Goals as goal

pub share_join-requires-clause-distinct : goal.share_join-requires-clause-distinct
unfolding IsDistinct
share_join-requires-clause-distinct g c = ((refl, tt), (tt, tt))

pub share_join-requires-2-clause-distinct : goal.share_join-requires-2-clause-distinct
unfolding IsDistinct
share_join-requires-2-clause-distinct g c = ((refl, (refl, tt)), ((refl, tt), (tt, tt)))
