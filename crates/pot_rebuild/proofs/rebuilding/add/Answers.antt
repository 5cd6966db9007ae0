use Rattle.std.proofs.Common.{ap₂, ap, ◌∙◌, bit_xor}
use Rattle.pot_bytes.specs.Product.{byte_product}
use Rattle.pot_rebuild.proofs.RebuiltLemmas.{added}
use Rattle.pot_rebuild.proofs.rebuilding.add.Goals as goal

pub returns : goal.returns
returns c = added c.args.data_columns c.args.times.first c.args.times.second c.args.column _ c.args.sum.now c.fold_weighted.new.into c.args.block.now
    c.requires c.block_law.ensures
    (ap₂ bit_xor (c.mul.ensures ∙ ap (byte_product c.args.times.first) c.p_weight.ensures) (c.mul-2.ensures ∙ ap (byte_product c.args.times.second) c.q_weight.ensures))
    c.fold_weighted.ensures.value
