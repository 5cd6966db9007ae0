use Rattle.std.proofs.Common.{◌≡◌, ◌+◌, ◌-◌, ◌*◌, ◌%◌, ◌^◌, map, replicate, set, ◌∷◌, ◌++◌, [], ℕ, List, length, take, drop, get_or, arith, ap, ap₂, sym, ◌∙◌}
use Rattle.std.proofs.lemmas.List.{take_more_set, take_all}
use Rattle.std.proofs.lemmas.List.FromFn.{map-range_with_len_more}
use Rattle.std.proofs.lemmas.Simd.{map-map}
use Rattle.std.specs.List.{range_with_len}
use Rattle.pot_shard.specs.FileBlocks.{content_shards, names_in, shard_of, shard_at_place}
use Rattle.pot_shard.specs.Rings.{ring}
use Rattle.pot_shard.specs.Shards.{shard_bytes}
use Rattle.pot_shard.proofs.BlockLemmas.{front_at, length-names_at, ring_cleared, ring_read}
use Rattle.pot_shard.proofs.RingLemmas.{length-ring}
use Rattle.pot_shard.proofs.blocks.content_blocks.Goals as goal

pub shard_block-requires-clause-cleared : goal.shard_block-requires-clause-cleared
shard_block-requires-clause-cleared c =
    let g = c.args.geometry.now in
    let random = c.args.random.now in
    let names = names_in g random in
    let read = ring_read g random c.split_at.result.1.now c.read_names.new.names c.ring_of.new.pointers c.from-count.result c.rows_len.result
    c.requires.geometry.shards c.from-count.ensures c.rows_len.ensures.value c.split_at.ensures.back c.read_names.ensures c.ring_of.ensures in
    let long : length names ≡ g.shards = length-names_at g.shards (drop ((g.need - 1) * 992) random) in
    let place = c.loop-place.place in
    let here : get_or (c.ring_of.new.pointers ++ drop c.from-count.result (replicate 16 0)) c.from-at.result 0 ≡ get_or (ring names g.blur) place 0 =
    front_at c.ring_of.new.pointers (drop {A = ℕ} c.from-count.result (replicate 16 0)) (ring names g.blur) c.from-at.result place read.1 (omega (arith, length-ring names g.blur)) c.from-at.ensures in
    ap (λ (z : ℕ). z % 2 ^ g.blur) here ∙ ring_cleared names g.blur place (omega arith)

pub loop-place-preserved : goal.loop-place-preserved
loop-place-preserved c =
    let g = c.args.geometry.now in
    let random = c.args.random.now in
    let content = c.args.content.now in
    let names = names_in g random in
    let read = ring_read g random c.split_at.result.1.now c.read_names.new.names c.ring_of.new.pointers c.from-count.result c.rows_len.result
    c.requires.geometry.shards c.from-count.ensures c.rows_len.ensures.value c.split_at.ensures.back c.read_names.ensures c.ring_of.ensures in
    let long : length names ≡ g.shards = length-names_at g.shards (drop ((g.need - 1) * 992) random) in
    let place = c.loop-place.place in
    let behind : List ℕ = drop c.from-count.result (replicate 16 0) in
    let name : get_or (c.read_names.new.names ++ behind) c.from-at.result 0 ≡ get_or names place 0 =
    front_at c.read_names.new.names behind names c.from-at.result place read.0 (omega arith) c.from-at.ensures in
    let pointer : get_or (c.ring_of.new.pointers ++ behind) c.from-at.result 0 ≡ get_or (ring names g.blur) place 0 =
    front_at c.ring_of.new.pointers behind (ring names g.blur) c.from-at.result place read.1 (omega (arith, length-ring names g.blur)) c.from-at.ensures in
    let rows : c.split_at.result.0.now ≡ take ((g.need - 1) * 992) random =
    c.split_at.ensures.front ∙ ap (λ (z : ℕ). take z random) c.rows_len.ensures.value in
    let block : c.shard_block.result ≡ shard_bytes (shard_at_place g content random place) =
    c.shard_block.ensures
    ∙ ap (λ (z : List ℕ). shard_bytes (shard_of g content z place (get_or (c.read_names.new.names ++ behind) c.from-at.result 0) (get_or (c.ring_of.new.pointers ++ behind) c.from-at.result 0))) rows
    ∙ ap₂ (λ (a b : ℕ). shard_bytes (shard_of g content (take ((g.need - 1) * 992) random) place a b)) name pointer in
    let f : ℕ → List ℕ = λ i. shard_bytes (shard_at_place g content random i) in
    ap (λ (z : ℕ). take (place + 1) (set c.loop-place.out z c.shard_block.result)) c.from-at.ensures
    ∙ take_more_set c.loop-place.out place c.shard_block.result (omega arith)
    ∙ ap₂ (λ (xs : List (List ℕ)) (y : List ℕ). xs ++ y ∷ []) c.loop-place.invariant block
    ∙ sym (map-range_with_len_more f 0 place place (omega arith))

pub returns : goal.returns
unfolding content_shards
returns c =
    let g = c.args.geometry.now in
    let random = c.args.random.now in
    let content = c.args.content.now in
    let place = c.loop-place.place in
    let f : ℕ → List ℕ = λ i. shard_bytes (shard_at_place g content random i) in
    sym (take_all place c.loop-place.out (omega arith)) ∙ c.loop-place.invariant
    ∙ ap (λ (k : ℕ). map f (range_with_len 0 k)) (let e : place ≡ g.shards = omega arith in e)
    ∙ sym (map-map shard_bytes (shard_at_place g content random) (range_with_len 0 g.shards))
