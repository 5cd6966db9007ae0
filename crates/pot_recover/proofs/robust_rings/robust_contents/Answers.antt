use Rattle.std.proofs.Common.{◌<◌, [], List, ℕ, map, arith, subst, sym}
use Rattle.pot_recover.specs.HeldShards.{shard_of}
use Rattle.pot_recover.specs.LongScopes.{HasSearchedLong}
use Rattle.pot_recover.proofs.LongLemmas.{more_needs, needs_begin, needs_end, needs_above}
use Rattle.pot_recover.proofs.robust_rings.robust_contents.Goals as goal

pub loop-need-init : goal.loop-need-init
loop-need-init c = (
  subst (λ (l : List (List ℕ)). HasSearchedLong (map (shard_of c.args.bits) c.args.held.now) (λ m n. m < 1) c.args.count.now c.args.count.now [] l) (sym c.new-found.ensures.items)
      (needs_begin (map (shard_of c.args.bits) c.args.held.now) c.requires.shards c.args.count.now []),
  c.requires.counted,
)

pub loop-need-preserved : goal.loop-need-preserved
loop-need-preserved c = (
  more_needs (map (shard_of c.args.bits) c.args.held.now) c.loop-need.need c.args.count.now c.loop-need.count c.add_needing.new.count [] c.loop-need.found.items c.add_needing.new.found.items
      c.loop-need.invariant.0 c.in-Ok.ensures.searched,
  c.in-Ok.ensures.within,
)

pub returns-in-Err-clause-wide : goal.returns-in-Err-clause-wide
returns-in-Err-clause-wide c = λ same.
    needs_above (map (shard_of c.args.bits) c.args.held.now) c.loop-need.need 4000000 c.args.count.now c.loop-need.count [] c.loop-need.found.items c.loop-need.invariant.0
    (c.in-Err.ensures.wide same)

pub returns-clause-searched : goal.returns-clause-searched
returns-clause-searched c =
    needs_end (map (shard_of c.args.bits) c.args.held.now) c.requires.shards c.loop-need.need c.args.count.now c.loop-need.count [] c.loop-need.found.items
    (omega (arith, c.loop-need-test.false)) c.loop-need.invariant.0
