use Rattle.std.proofs.Common.{◌∙◌}
use Rattle.pot_steps.proofs.WeightLemmas.{weight_in_is, out_apart}
use Rattle.pot_steps.proofs.weighing.weight_of.Goals as goal

pub weight-requires-clause-apart : goal.weight-requires-clause-apart
weight-requires-clause-apart c = out_apart c.args.data_columns c.args.relay c.left_out-out.result c.left_out-out.ensures c.requires.relay

pub returns : goal.returns
returns c = c.weight.ensures ∙ weight_in_is c.args.data_columns c.args.relay c.args.column c.left_out-out.result c.left_out-out.ensures
