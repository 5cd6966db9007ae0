use Rattle.std.proofs.Common.{◌≡◌, map, arith}
use Rattle.pot_shard.specs.declared.shard.Shard.{Shard}
use Rattle.pot_recover.specs.HeldShards.{shard_of}
use Rattle.pot_recover.proofs.OpenLemmas.{loop_begin, loop_more, loop_end, loop_above}
use Rattle.pot_recover.proofs.open_chains.add_points.Goals as goal

pub loop-first-init : goal.loop-first-init
loop-first-init c = (
  loop_begin (map (shard_of c.args.bits) c.args.held.now) (λ (s : Shard). (s.m ≡ c.args.need) × (s.n ≡ c.args.shards)) (λ (s : Shard). s.x) 1 c.args.count.now c.args.found.now.items
      (λ s there e. (c.requires.shards s there).shard.x_first),
  c.requires.counted,
)

pub loop-first-preserved : goal.loop-first-preserved
loop-first-preserved c = (
  loop_more (map (shard_of c.args.bits) c.args.held.now) (λ (s : Shard). (s.m ≡ c.args.need) × (s.n ≡ c.args.shards)) (λ (s : Shard). s.x) c.loop-first.first
      c.args.count.now c.loop-first.count c.add_from.new.count c.args.found.now.items c.loop-first.found.items c.add_from.new.found.items
      c.loop-first.invariant.0 c.in-Ok.ensures.searched,
  c.in-Ok.ensures.within,
)

pub returns-in-Err-clause-wide : goal.returns-in-Err-clause-wide
returns-in-Err-clause-wide c = λ same.
    loop_above (map (shard_of c.args.bits) c.args.held.now) (λ (s : Shard). (s.m ≡ c.args.need) × (s.n ≡ c.args.shards)) (λ (s : Shard). s.x) c.loop-first.first 4000000
    c.args.count.now c.loop-first.count c.args.found.now.items c.loop-first.found.items c.loop-first.invariant.0 (c.in-Err.ensures.wide same)

pub returns-clause-searched : goal.returns-clause-searched
returns-clause-searched c =
    loop_end (map (shard_of c.args.bits) c.args.held.now) (λ (s : Shard). (s.m ≡ c.args.need) × (s.n ≡ c.args.shards)) (λ (s : Shard). s.x) c.loop-first.first
    c.args.count.now c.loop-first.count c.args.found.now.items c.loop-first.found.items
    (λ s there e. let last = (c.requires.shards s there).shard.x_last in omega (arith, last, e.1, c.loop-first-test.false))
    c.loop-first.invariant.0
