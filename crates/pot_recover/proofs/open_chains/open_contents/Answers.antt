use Rattle.std.proofs.Common.{◌≡◌, ◌<◌, [], List, ℕ, map, arith, subst, sym}
use Rattle.std.specs.Prelude.{⊤}
use Rattle.pot_shard.specs.declared.shard.Shard.{Shard}
use Rattle.pot_recover.specs.HeldShards.{shard_of}
use Rattle.pot_recover.specs.OpenScopes.{HasSearchedOpen}
use Rattle.pot_recover.proofs.OpenLemmas.{loop_begin, loop_more, loop_end, loop_above, searched_same, above_same}
use Rattle.pot_recover.proofs.open_chains.open_contents.Goals as goal

pub loop-need-init : goal.loop-need-init
loop-need-init c =
    let shards = map (shard_of c.args.bits) c.args.held.now in (
      subst (λ (l : List (List ℕ)). HasSearchedOpen shards (λ (s : Shard). ⊤ × (s.m < 1)) c.args.count.now c.args.count.now [] l) (sym c.new-found.ensures.items)
          (loop_begin shards (λ (s : Shard). ⊤) (λ (s : Shard). s.m) 1 c.args.count.now [] (λ s there w. (c.requires.shards s there).shard.m_first)),
      c.requires.counted,
    )

pub loop-need-preserved : goal.loop-need-preserved
loop-need-preserved c =
    let shards = map (shard_of c.args.bits) c.args.held.now in (
      loop_more shards (λ (s : Shard). ⊤) (λ (s : Shard). s.m) c.loop-need.need c.args.count.now c.loop-need.count c.add_needing.new.count [] c.loop-need.found.items c.add_needing.new.found.items
          c.loop-need.invariant.0
          (searched_same shards (λ (s : Shard). s.m ≡ c.loop-need.need) (λ (s : Shard). ⊤ × (s.m ≡ c.loop-need.need)) c.loop-need.count c.add_needing.new.count c.loop-need.found.items c.add_needing.new.found.items
          (λ s there. (λ e. (tt, e), λ w. w.1)) c.in-Ok.ensures.searched),
      c.in-Ok.ensures.within,
    )

pub returns-in-Err-clause-wide : goal.returns-in-Err-clause-wide
returns-in-Err-clause-wide c = λ same.
    let shards = map (shard_of c.args.bits) c.args.held.now in
    loop_above shards (λ (s : Shard). ⊤) (λ (s : Shard). s.m) c.loop-need.need 4000000 c.args.count.now c.loop-need.count [] c.loop-need.found.items c.loop-need.invariant.0
    (above_same shards (λ (s : Shard). s.m ≡ c.loop-need.need) (λ (s : Shard). ⊤ × (s.m ≡ c.loop-need.need)) 4000000 c.loop-need.count (λ s e. (tt, e)) (c.in-Err.ensures.wide same))

pub returns-clause-searched : goal.returns-clause-searched
returns-clause-searched c =
    let shards = map (shard_of c.args.bits) c.args.held.now in
    loop_end shards (λ (s : Shard). ⊤) (λ (s : Shard). s.m) c.loop-need.need c.args.count.now c.loop-need.count [] c.loop-need.found.items
    (λ s there w. let is = (c.requires.shards s there).shard in let m = is.m_last in let n = is.n_last in omega (arith, c.loop-need-test.false, m, n))
    c.loop-need.invariant.0
