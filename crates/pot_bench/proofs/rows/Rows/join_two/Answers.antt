use Rattle.std.proofs.Common.{refl}
use Rattle.std.specs.List.{IsDistinct}
use Rattle.pot_bench.proofs.rows.Rows.join_two.Goals as goal

pub join-requires-clause-distinct : goal.join-requires-clause-distinct
unfolding IsDistinct
join-requires-clause-distinct c = ((refl, tt), (tt, tt))
