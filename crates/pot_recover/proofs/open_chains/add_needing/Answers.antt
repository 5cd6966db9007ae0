use Rattle.std.proofs.Common.{◌≡◌, map, arith}
use Rattle.pot_shard.specs.declared.shard.Shard.{Shard}
use Rattle.pot_recover.specs.HeldShards.{shard_of}
use Rattle.pot_recover.proofs.OpenLemmas.{loop_begin, loop_more, loop_end, loop_above}
use Rattle.pot_recover.proofs.open_chains.add_needing.Goals as goal

pub loop-shards-init : goal.loop-shards-init
loop-shards-init c = (
  loop_begin (map (shard_of c.args.bits) c.args.held.now) (λ (s : Shard). s.m ≡ c.args.need) (λ (s : Shard). s.n) c.args.need c.args.count.now c.args.found.now.items
      (λ s there e. let last = (c.requires.shards s there).shard.m_last in omega (arith, e, last)),
  c.requires.counted,
)

pub loop-shards-preserved : goal.loop-shards-preserved
loop-shards-preserved c = (
  loop_more (map (shard_of c.args.bits) c.args.held.now) (λ (s : Shard). s.m ≡ c.args.need) (λ (s : Shard). s.n) c.loop-shards.shards
      c.args.count.now c.loop-shards.count c.add_points.new.count c.args.found.now.items c.loop-shards.found.items c.add_points.new.found.items
      c.loop-shards.invariant.0 c.in-Ok.ensures.searched,
  c.in-Ok.ensures.within,
)

pub returns-in-Err-clause-wide : goal.returns-in-Err-clause-wide
returns-in-Err-clause-wide c = λ same.
    loop_above (map (shard_of c.args.bits) c.args.held.now) (λ (s : Shard). s.m ≡ c.args.need) (λ (s : Shard). s.n) c.loop-shards.shards 4000000
    c.args.count.now c.loop-shards.count c.args.found.now.items c.loop-shards.found.items c.loop-shards.invariant.0 (c.in-Err.ensures.wide same)

pub returns-clause-searched : goal.returns-clause-searched
returns-clause-searched c =
    loop_end (map (shard_of c.args.bits) c.args.held.now) (λ (s : Shard). s.m ≡ c.args.need) (λ (s : Shard). s.n) c.loop-shards.shards
    c.args.count.now c.loop-shards.count c.args.found.now.items c.loop-shards.found.items
    (λ s there e. let last = (c.requires.shards s there).shard.n_last in omega (arith, last, c.loop-shards-test.false))
    c.loop-shards.invariant.0
