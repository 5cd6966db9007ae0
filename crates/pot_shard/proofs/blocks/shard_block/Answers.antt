use Rattle.std.proofs.Common.{◌+◌, ℕ, List, ap, ◌∙◌}
use Rattle.pot_shard.specs.FileBlocks.{shard_of}
use Rattle.pot_shard.specs.Shards.{shard_bytes}
use Rattle.pot_shard.proofs.ShardLemmas.{made}
use Rattle.pot_shard.proofs.blocks.shard_block.Goals as goal

pub returns : goal.returns
unfolding shard_of made
returns c =
    let g = c.args.geometry.now in
    c.encode_shard.ensures
    ∙ ap (λ (z : List ℕ). shard_bytes (made (c.args.place + 1) g.need g.shards g.blur c.args.name c.args.pointer z)) c.share_out.ensures
