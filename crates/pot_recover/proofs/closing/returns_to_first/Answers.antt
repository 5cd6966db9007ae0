use Rattle.std.proofs.Common.{◌≡◌, ◌↔◌, ◌+◌, ◌-◌, ℕ, suc, List, length, map, arith, sym, subst}
use Rattle.pot_chains.specs.Listed.{IsIn}
use Rattle.pot_recover.specs.Groups.{shards_in}
use Rattle.pot_recover.specs.HeldShards.{shard_of}
use Rattle.pot_recover.specs.Sets.{IsNextShard, IsPointed}
use Rattle.pot_recover.proofs.NextLemmas.{last_shard, chain_next}
use Rattle.pot_recover.proofs.ClosingLemmas.{chain_whole, chain_some, chain_long, first_pointed, ends_is}
use Rattle.pot_recover.proofs.closing.returns_to_first.Goals as goal

pub rows_of-requires-clause-whole : goal.rows_of-requires-clause-whole
rows_of-requires-clause-whole c =
    let g = c.args.group.now in
    chain_whole (shards_in g) g.need (length g.parts.items) g.bits c.args.chain.now c.requires.chain

pub loop-place-init : goal.loop-place-init
loop-place-init c =
    let g = c.args.group.now in
    first_pointed (IsIn (shards_in g)) g.bits c.args.chain.now c.new-pointers.result.items c.push_pointer.new.found.items (length c.args.chain.now - length c.args.chain.now)
    (chain_some (shards_in g) g.need (length g.parts.items) g.bits c.args.chain.now c.requires.chain) (omega arith) c.new-pointers.ensures.items c.in_ok-push_pointer.ensures

pub loop-place-preserved : goal.loop-place-preserved
loop-place-preserved c =
    let g = c.args.group.now in
    let n = length g.parts.items in
    let chain = map (shard_of g.bits) c.args.chain.now in
    let place = c.loop-place.place in
    let k = place - length c.args.chain.now in
    let long = chain_long (shards_in g) g.need n g.bits c.args.chain.now c.requires.chain in
    let next : place + 1 ≡ g.need + suc k = omega (arith, long, c.loop-place.auto.place) in
    let steps : place + 1 - length c.args.chain.now ≡ suc k = omega (arith, c.loop-place.auto.place) in
    let within = g.parts.ok.0 in
    subst (λ i. (p : ℕ) → IsIn c.in_ok-pointers.pointers.items p ↔ IsPointed (IsIn (shards_in g)) chain (last_shard chain) i p) (sym steps)
    (chain_next (shards_in g) g.need n g.bits chain k c.loop-place.pointers.items c.in_ok-pointers.pointers.items c.requires.chain
    (omega (arith, next, c.loop-place-test.true, within, c.len-place-end.ensures)) c.loop-place.invariant
    (subst (λ (l : List ℕ). (p : ℕ) → IsIn c.in_ok-pointers.pointers.items p ↔ IsNextShard (IsIn (shards_in g)) chain g.need n g.bits (g.need + suc k) (IsIn l) p) c.deref-in-loop-place.ensures.value
    (subst (λ x. (p : ℕ) → IsIn c.in_ok-pointers.pointers.items p ↔ IsNextShard (IsIn (shards_in g)) chain g.need n g.bits x (IsIn c.deref-in-loop-place.result.now) p) next c.in_ok-pointers.ensures)))

pub returns : goal.returns
returns c =
    let g = c.args.group.now in
    let long = chain_long (shards_in g) g.need (length g.parts.items) g.bits c.args.chain.now c.requires.chain in
    let within = g.parts.ok.0 in
    let few = c.requires.chain.few in
    ends_is g c.args.chain.now c.loop-place.pointers.items c.deref-2.result.now (c.loop-place.place - length c.args.chain.now) c.blur.result c.contains.result c.requires.chain
    (omega (arith, long, within, few, c.loop-place-test.false, c.loop-place.auto.place-end, c.len-place-end.ensures)) c.loop-place.invariant c.deref-2.ensures.value c.blur.ensures.value c.contains.ensures.value
