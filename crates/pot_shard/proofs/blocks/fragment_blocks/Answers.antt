use Rattle.std.proofs.Common.{List, ℕ, map, ap, ◌∙◌}
use Rattle.pot_shard.specs.FileBlocks.{content_shards, fragment_len, fragment_shards, head_len, part_at}
use Rattle.pot_shard.specs.Shards.{shard_bytes}
use Rattle.pot_shard.proofs.BlockLemmas.{part_taken}
use Rattle.pot_shard.proofs.blocks.fragment_blocks.Goals as goal

pub returns : goal.returns
unfolding fragment_shards
returns c =
    let g = c.args.geometry.now in
    let random = c.args.random.now in
    let j = c.args.number in
    let size = c.fragment_len-size in
    c.content_blocks.ensures
    ∙ ap (λ (z : List ℕ). map shard_bytes (content_shards g c.content_at-content.result z))
    (part_taken c.head_len.result c.from.result size.result (head_len g) j (fragment_len g) random c.head_len.ensures.value c.from.ensures size.ensures.value)
    ∙ ap (λ (z : List ℕ). map shard_bytes (content_shards g z (part_at (head_len g) (fragment_len g) j random))) c.content_at-content.ensures
