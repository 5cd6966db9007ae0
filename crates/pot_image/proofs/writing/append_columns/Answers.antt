use Rattle.pot_image.specs.Spelling.{column_bytes}
use Rattle.pot_image.proofs.WriteRules.{grown}
use Rattle.pot_image.proofs.writing.append_columns.Goals as goal

pub loop-column-preserved : goal.loop-column-preserved
loop-column-preserved c = grown column_bytes _ _ _ _ _ _ c.loop-column-test.true c.loop-column.invariant c.in_ok-append_column.ensures
