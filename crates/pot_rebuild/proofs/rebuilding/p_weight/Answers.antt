use Rattle.std.proofs.Common.{sym, arith}
use Rattle.pot_steps.proofs.Weights.{p_weight-low, p_weight-high}
use Rattle.pot_rebuild.proofs.rebuilding.p_weight.Goals as goal

pub returns-then-column-data_columns : goal.returns-then-column-data_columns
returns-then-column-data_columns c = sym (p_weight-low c.args.data_columns c.args.column (omega (arith, c.if-column-data_columns.true)))

pub returns-else-column-data_columns : goal.returns-else-column-data_columns
returns-else-column-data_columns c = sym (p_weight-high c.args.data_columns c.args.column (omega (arith, c.if-column-data_columns.false)))
