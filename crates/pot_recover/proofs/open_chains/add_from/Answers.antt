use Rattle.std.proofs.Common.{◌≡◌, ◌↔◌, ◌⊎◌, ◌-◌, ℕ, List, map, length, ap, sym, subst, arith}
use Rattle.std.proofs.lemmas.Result.{on_ok_weaker}
use Rattle.pot_chains.specs.Levels.{IsPath, IsPathBelow, AreLevels}
use Rattle.pot_chains.specs.Listed.{IsIn, IsListed, AreAbove, HasGrown}
use Rattle.pot_chains.specs.declared.levels.Level.{Level}
use Rattle.pot_recover.specs.Groups.{parts_of}
use Rattle.pot_recover.specs.HeldShards.{shard_of}
use Rattle.pot_recover.specs.OpenScopes.{AreJoinable, IsGivenAmong}
use Rattle.pot_recover.proofs.OpenLemmas.{levels_long, all_are, all_joinable, above_is, window_searched}
use Rattle.pot_recover.proofs.open_chains.add_from.Goals as goal

pub paths-requires-clause-some : goal.paths-requires-clause-some
paths-requires-clause-some c =
    let start = c.args.start in
    let some = c.requires.start.some in
    omega (arith, ap length c.deref.ensures.value, levels_long (map (shard_of c.args.bits) c.args.held.now) start.need start.shards start.first c.in-Ok.window c.in-Ok.ensures.window, some)

pub paths-requires-clause-few : goal.paths-requires-clause-few
paths-requires-clause-few c =
    let start = c.args.start in
    let few = c.requires.start.few in
    let small = c.requires.start.small in
    omega (arith, ap length c.deref.ensures.value, levels_long (map (shard_of c.args.bits) c.args.held.now) start.need start.shards start.first c.in-Ok.window c.in-Ok.ensures.window, few, small)

pub paths-requires-clause-levels : goal.paths-requires-clause-levels
paths-requires-clause-levels c =
    let start = c.args.start in
    subst AreLevels (sym c.deref.ensures.value) (all_are (map (shard_of c.args.bits) c.args.held.now) start.need start.shards start.first c.in-Ok.window c.in-Ok.ensures.window)

-- the chains that were found are those of the window
chains_here : (bits : ℕ) (now items : List Level) (chains : List (List ℕ)) (b : ℕ) → b ≡ bits → now ≡ items → IsListed (IsPath bits now (length now - 1)) chains
    → IsListed (IsPath b items (length items - 1)) chains
chains_here bits now items chains b e f h =
    subst (λ k. IsListed (IsPath k items (length items - 1)) chains) (sym e) (subst (λ (l : List Level). IsListed (IsPath bits l (length l - 1)) chains) f h)

pub give_all-requires : goal.give_all-requires
give_all-requires c =
    let start = c.args.start in
    let w = c.in-Ok.window in
    record {
      chains = subst (AreJoinable (parts_of w.bits w.parts.items)) (sym c.deref-in-Ok-paths.ensures.value)
          (all_joinable (map (shard_of c.args.bits) c.args.held.now) start.need start.shards start.first w c.in-Ok.ensures.window c.in-Ok-paths.chains.items
          (chains_here c.args.bits c.deref.result.now w.levels.items c.in-Ok-paths.chains.items w.bits c.in-Ok.ensures.bits c.deref.ensures.value c.in-Ok-paths.ensures.found));
    }

pub returns-in-Ok-paths-clause-searched : goal.returns-in-Ok-paths-clause-searched
returns-in-Ok-paths-clause-searched c =
    let start = c.args.start in
    let w = c.in-Ok.window in
    on_ok_weaker c.give_all.result
    (λ given. window_searched (map (shard_of c.args.bits) c.args.held.now) start.need start.shards start.first w c.in-Ok.ensures.window
    c.args.count.now c.paths.new.count c.args.found.now.items c.give_all.new.found.items c.in-Ok-paths.chains.items
    (chains_here c.args.bits c.deref.result.now w.levels.items c.in-Ok-paths.chains.items w.bits c.in-Ok.ensures.bits c.deref.ensures.value c.in-Ok-paths.ensures.found)
    (subst (λ k. HasGrown (IsPathBelow k w.levels.items (length w.levels.items)) c.args.count.now c.paths.new.count) (sym c.in-Ok.ensures.bits)
    (subst (λ (l : List Level). HasGrown (IsPathBelow c.args.bits l (length l)) c.args.count.now c.paths.new.count) c.deref.ensures.value c.in-Ok-paths.ensures.counts))
    (subst (λ (l : List (List ℕ)). (x : List ℕ) → IsIn c.give_all.new.found.items x ↔ (IsIn c.args.found.now.items x ⊎ IsGivenAmong (parts_of w.bits w.parts.items) l x))
    c.deref-in-Ok-paths.ensures.value given))
    c.give_all.ensures.found

pub returns-clause-wide : goal.returns-clause-wide
returns-clause-wide c = λ same.
    let start = c.args.start in
    let w = c.in-Ok.window in
    above_is (map (shard_of c.args.bits) c.args.held.now) start.need start.shards start.first w c.in-Ok.ensures.window 4000000 c.args.count.now
    (subst (λ k. AreAbove (IsPathBelow k w.levels.items (length w.levels.items)) 4000000 c.args.count.now) (sym c.in-Ok.ensures.bits)
    (subst (λ (l : List Level). AreAbove (IsPathBelow c.args.bits l (length l)) 4000000 c.args.count.now) c.deref.ensures.value (c.in-Err.ensures.wide same)))
