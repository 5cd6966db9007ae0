use Rattle.std.proofs.Common.{map, arith}
use Rattle.pot_recover.specs.HeldShards.{shard_of}
use Rattle.pot_recover.proofs.LongLemmas.{more_shards, shards_begin, shards_end, shards_above}
use Rattle.pot_recover.proofs.robust_rings.add_needing.Goals as goal

pub loop-shards-init : goal.loop-shards-init
loop-shards-init c = (shards_begin (map (shard_of c.args.bits) c.args.held.now) c.requires.shards c.args.need c.args.count.now c.args.found.now.items, c.requires.counted)

pub loop-shards-preserved : goal.loop-shards-preserved
loop-shards-preserved c = (
  more_shards (map (shard_of c.args.bits) c.args.held.now) c.args.need c.loop-shards.shards c.args.count.now c.loop-shards.count c.add_group.new.count c.args.found.now.items c.loop-shards.found.items c.add_group.new.found.items
      c.loop-shards.invariant.0 c.in-Ok.ensures.searched,
  c.in-Ok.ensures.within,
)

pub returns-in-Err-clause-wide : goal.returns-in-Err-clause-wide
returns-in-Err-clause-wide c = λ same.
    shards_above (map (shard_of c.args.bits) c.args.held.now) c.args.need c.loop-shards.shards 4000000 c.args.count.now c.loop-shards.count c.args.found.now.items c.loop-shards.found.items c.loop-shards.invariant.0
    (c.in-Err.ensures.wide same)

pub returns-clause-searched : goal.returns-clause-searched
returns-clause-searched c =
    shards_end (map (shard_of c.args.bits) c.args.held.now) c.requires.shards c.args.need c.loop-shards.shards c.args.count.now c.loop-shards.count c.args.found.now.items c.loop-shards.found.items
    (omega (arith, c.loop-shards-test.false)) c.loop-shards.invariant.0
