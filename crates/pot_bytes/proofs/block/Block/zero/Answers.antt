use Rattle.std.proofs.Common.{rules}
use Rattle.pot_bytes.specs.Sums.{zero_block}
use Rattle.pot_bytes.proofs.block.Block.zero.Goals as goal

pub returns : goal.returns
unfolding zero_block
returns c = search rules
