use Rattle.std.proofs.Common.{◌≡◌, ◌+◌, ◌-◌, ◌*◌, ◌++◌, ℕ, List, length, map, take, drop, arith, ap, ap₂, sym, ◌∙◌}
use Rattle.std.specs.List.{range_with_len}
use borrow.Rule.Slice.PartMut.{put_mid}
use Rattle.pot_bytes.specs.Sums.{xor}
use Rattle.pot_split.specs.Secrecy.{meaning}
use Rattle.pot_shard.specs.FileBlocks.{fragment_shards, fragments_of, object_shards, pads_in}
use Rattle.pot_shard.specs.Shards.{shard_bytes}
use Rattle.pot_shard.proofs.BlockLemmas.{length-fragment_blocks, map-flat_map, pads_are_rows, put_part, whole_parts}
use Rattle.pot_shard.proofs.blocks.object_blocks.Goals as goal

pub last_fragment-last-requires : goal.last_fragment-last-requires
last_fragment-last-requires c =
    pads_are_rows c.args.geometry.now c.args.random.now c.head_len.result c.requires.random c.head_len.ensures.value

pub loop-number-preserved : goal.loop-number-preserved
loop-number-preserved c =
    let g = c.args.geometry.now in
    let object = c.args.object.now in
    let random = c.args.random.now in
    let number = c.loop-number.number in
    let out = c.loop-number.out in
    let new = c.fragment_blocks.new.out in
    let pads : c.head_len.result - 16 ≡ (g.fragments - 1) * 928 = omega (arith, c.head_len.ensures.value) in
    let last : c.last_fragment-last.result ≡ xor object (meaning (length object) (pads_in g random)) =
    c.last_fragment-last.ensures
    ∙ ap₂ (λ (s n : ℕ). xor object (meaning s (take n (drop 16 random)))) (sym c.told-object) pads in
    let f : ℕ → List (List ℕ) = λ j. map shard_bytes (fragment_shards g (fragments_of g object random) random j) in
    let here : new ≡ f number =
    c.fragment_blocks.ensures ∙ ap (λ (z : List ℕ). map shard_bytes (fragment_shards g (pads_in g random ++ z) random number)) last in
    ap₂ (λ (a b : ℕ). take ((number + 1) * g.shards) (put_mid (a * b) (a * b + b - a * b) out new)) c.from.ensures c.from-count.ensures
    ∙ put_part f out new number g.fragments g.shards (number * g.shards + g.shards - number * g.shards)
    (c.loop-number.auto.out ∙ c.requires.room) c.loop-number-test.true c.loop-number.invariant here
    (ap length here ∙ length-fragment_blocks g (fragments_of g object random) random number)

pub returns : goal.returns
unfolding object_shards
returns c =
    let g = c.args.geometry.now in
    let object = c.args.object.now in
    let random = c.args.random.now in
    let f : ℕ → List (List ℕ) = λ j. map shard_bytes (fragment_shards g (fragments_of g object random) random j) in
    whole_parts f c.loop-number.out c.loop-number.number g.fragments g.shards
    (c.loop-number.auto.out ∙ c.requires.room) (omega (arith, c.loop-number-test.false)) c.loop-number.invariant
    ∙ sym (map-flat_map shard_bytes (fragment_shards g (fragments_of g object random) random) (range_with_len 0 g.fragments))
