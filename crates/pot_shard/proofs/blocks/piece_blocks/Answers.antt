use Rattle.std.proofs.Common.{List, ℕ, map, ap, ◌∙◌}
use Rattle.pot_shard.specs.FileBlocks.{object_shards, piece_blocks}
use Rattle.pot_shard.specs.Shards.{shard_bytes}
use Rattle.pot_shard.proofs.blocks.piece_blocks.Goals as goal

pub returns : goal.returns
unfolding piece_blocks
returns c =
    c.object_blocks.ensures
    ∙ ap (λ (z : List ℕ). map shard_bytes (object_shards c.args.geometry.now z c.args.random.now)) c.write_object.ensures
