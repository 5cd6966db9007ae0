use Rattle.std.proofs.Common.{sym, ap₂, ◌∙◌, arith}
use Rattle.pot_bytes.specs.Product.{byte_product}
use Rattle.pot_steps.proofs.Relays.{p-data_data, p-data_p, p-low_q, p-p, p-q_data}
use Rattle.pot_steps.proofs.WeightLemmas.{p_last}
use Rattle.pot_steps.proofs.weighing.p_times.Goals as goal

pub returns-then-out-data_columns : goal.returns-then-out-data_columns
returns-then-out-data_columns c = c.mul.ensures ∙ ap₂ byte_product c.requires c.power_of_three.ensures
    ∙ sym (p-data_data c.args.data_columns c.args.target c.args.out (omega (arith, c.if-target-data_columns.true)) (omega (arith, c.if-out-data_columns.true)))

pub returns-then-out-data_columns-2 : goal.returns-then-out-data_columns-2
returns-then-out-data_columns-2 c = sym (p-data_p c.args.data_columns c.args.target c.args.out (omega (arith, c.if-target-data_columns.true)) (omega (arith, c.if-out-data_columns-2.true)))

pub returns-else-out-data_columns-2 : goal.returns-else-out-data_columns-2
returns-else-out-data_columns-2 c = sym (p-low_q c.args.data_columns c.args.target c.args.out (omega (arith, c.if-target-data_columns.true)) (omega (arith, c.if-out-data_columns.false, c.if-out-data_columns-2.false)))

pub returns-then-target-data_columns-2 : goal.returns-then-target-data_columns-2
returns-then-target-data_columns-2 c = sym (p-p c.args.data_columns c.args.target c.args.out (omega (arith, c.if-target-data_columns-2.true)))

pub returns-then-out-data_columns-3 : goal.returns-then-out-data_columns-3
returns-then-out-data_columns-3 c = c.power_of_three-then-out-data_columns-3.ensures
    ∙ sym (p-q_data c.args.data_columns c.args.target c.args.out (omega (arith, c.if-target-data_columns.false, c.if-target-data_columns-2.false)) (omega (arith, c.if-out-data_columns-3.true)))

pub returns-else-out-data_columns-3 : goal.returns-else-out-data_columns-3
returns-else-out-data_columns-3 c = sym (p_last c.args.data_columns c.args.target c.args.out (omega (arith, c.if-target-data_columns.false, c.if-target-data_columns-2.false)) (omega (arith, c.if-out-data_columns-3.false)))
