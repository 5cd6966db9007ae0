use Rattle.std.proofs.Common.{◌↔◌, map, arith, subst, sym}
use Rattle.std.proofs.lemmas.List.Filters.{dedup_is}
use Rattle.std.proofs.lemmas.List.Sorted.{length_permutation}
use Rattle.pot_chains.specs.Listed.{IsIn, IsOnce}
use Rattle.pot_recover.specs.HeldShards.{shard_of, HaveBytes, PlacesRise}
use Rattle.pot_recover.specs.contracts.held.HeldOrd.TheImpl.Laws.{matches_eq-law}
use Rattle.pot_recover.proofs.OrderLemmas.{same_shards, still_bytes, shards_once, places_rise, fewer_is}
use Rattle.pot_recover.proofs.held.sort_held.Goals as goal

pub returns-clause-same : goal.returns-clause-same
returns-clause-same c = λ bits s.
    let left = dedup_is _ c.sort_unstable.new.self.items c.dedup.new.self.items c.dedup.ensures.filtered in
    subst (λ l. IsIn (map (shard_of bits) l) s ↔ IsIn (map (shard_of bits) c.args.held.now.items) s) (sym left)
    (same_shards _ matches_eq-law c.args.held.now.items c.sort_unstable.new.self.items c.sort_unstable.ensures.permutation c.sort_unstable.ensures.sorted bits s)

pub returns-clause-bytes : goal.returns-clause-bytes
returns-clause-bytes c = λ have.
    let left = dedup_is _ c.sort_unstable.new.self.items c.dedup.new.self.items c.dedup.ensures.filtered in
    subst HaveBytes (sym left)
    (still_bytes _ matches_eq-law c.args.held.now.items c.sort_unstable.new.self.items c.sort_unstable.ensures.permutation c.sort_unstable.ensures.sorted have)

pub returns-clause-once : goal.returns-clause-once
returns-clause-once c = λ bits.
    let left = dedup_is _ c.sort_unstable.new.self.items c.dedup.new.self.items c.dedup.ensures.filtered in
    subst (λ l. IsOnce (map (shard_of bits) l)) (sym left)
    (shards_once _ matches_eq-law c.args.held.now.items c.sort_unstable.new.self.items c.sort_unstable.ensures.permutation c.sort_unstable.ensures.sorted bits)

pub returns-clause-order : goal.returns-clause-order
returns-clause-order c =
    let left = dedup_is _ c.sort_unstable.new.self.items c.dedup.new.self.items c.dedup.ensures.filtered in
    subst PlacesRise (sym left)
    (places_rise _ matches_eq-law c.args.held.now.items c.sort_unstable.new.self.items c.sort_unstable.ensures.permutation c.sort_unstable.ensures.sorted)

pub returns-clause-few : goal.returns-clause-few
returns-clause-few c =
    let fewer = fewer_is _ c.dedup.new.self.items c.sort_unstable.new.self.items (dedup_is _ c.sort_unstable.new.self.items c.dedup.new.self.items c.dedup.ensures.filtered) in
    let same = length_permutation c.args.held.now.items c.sort_unstable.new.self.items c.sort_unstable.ensures.permutation in
    omega (arith, same, fewer)
