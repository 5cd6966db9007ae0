use Rattle.std.proofs.Common.{length}
use Rattle.pot_split.proofs.WeightedRows.{IsAdding}
use Rattle.pot_split.proofs.threshold.add_weighted_rows.Given as goal

abbrev pub invariant-loop-weight : goal.invariant-loop-weight
invariant-loop-weight l = IsAdding (length l.initial.into) l.weight-index l.weights l.initial.into l.rows l.into l.rest
