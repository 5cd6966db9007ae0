use Rattle.std.proofs.Common.{length}
use Rattle.pot_recover.proofs.JoinLemmas.{points_distinct}
use Rattle.pot_recover.proofs.robust.robust_byte.Goals as goal

pub robust_join-requires-clause-distinct : goal.robust_join-requires-clause-distinct
robust_join-requires-clause-distinct c = points_distinct c.first_points.result.now (length c.args.ring.now) c.first_points.ensures
