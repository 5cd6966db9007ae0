use Rattle.std.proofs.Common.{map, arith}
use Rattle.pot_recover.specs.HeldShards.{shard_of}
use Rattle.pot_recover.proofs.HeldLemmas.{held_more}
use Rattle.pot_recover.proofs.held.gathered.Goals as goal

pub loop-block-preserved : goal.loop-block-preserved
loop-block-preserved c = (
  held_more c.args.blocks.now c.loop-block.block-index c.args.bits c.block-item.result
      (map (shard_of c.args.bits) c.loop-block.held.items) (map (shard_of c.args.bits) c.push_held.new.held.items)
      c.loop-block-test.true c.block-item.is c.loop-block.invariant.0 c.in_ok-push_held.ensures.each,
  c.in_ok-push_held.ensures.bytes c.loop-block.invariant.1,
  omega (arith, c.in_ok-push_held.ensures.few, c.loop-block.invariant.2),
)
