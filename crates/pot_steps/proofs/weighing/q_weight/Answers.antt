use Rattle.std.proofs.Common.{sym, ◌∙◌, arith}
use Rattle.pot_steps.proofs.WeightLemmas.{q_at_p}
use Rattle.pot_steps.proofs.weighing.q_weight.Goals as goal
use Rattle.pot_steps.proofs.Weights.{q_weight-low, q_weight-q}

pub returns-then-column-data_columns : goal.returns-then-column-data_columns
returns-then-column-data_columns c = c.power_of_three.ensures ∙ sym (q_weight-low c.args.data_columns c.args.column (omega (arith, c.if-column-data_columns.true)))

pub returns-then-column-data_columns-2 : goal.returns-then-column-data_columns-2
returns-then-column-data_columns-2 c = sym (q_at_p c.args.data_columns c.args.column (omega (arith, c.if-column-data_columns-2.true)))

pub returns-else-column-data_columns-2 : goal.returns-else-column-data_columns-2
returns-else-column-data_columns-2 c = sym (q_weight-q c.args.data_columns c.args.column (omega (arith, c.if-column-data_columns.false, c.if-column-data_columns-2.false)))
