use Rattle.pot_steps.proofs.CallLemmas.{unfold_is}
use Rattle.pot_steps.proofs.rebuilding.unfold.Goals as goal

pub returns : goal.returns
returns c = unfold_is c.args.weight c.args.sum.now c.args.folded.now c.xor.new.self c.zero-block.result c.inv.result c.fold_weighted.new.into c.xor.ensures.value c.xor.ensures.len c.zero-block.ensures c.inv.ensures.value c.fold_weighted.ensures.value
