use Rattle.pot_rebuild.proofs.RebuiltLemmas.{IsSummed}
use Rattle.pot_rebuild.proofs.rebuilding.rebuilt.Given as goal

abbrev pub invariant-loop-column : goal.invariant-loop-column
invariant-loop-column l = IsSummed l.data_columns l.target l.out l.blocks l.column l.sum
