use Rattle.std.proofs.Common.{◌≡◌, ◌*◌, take}
use Rattle.std.specs.List.{flat_map, range_with_len}
use Rattle.pot_shard.specs.FileBlocks.{blocks_at}
use Rattle.pot_shard.proofs.blocks.file_blocks.Given as goal

abbrev pub invariant-loop-piece : goal.invariant-loop-piece
invariant-loop-piece l =
    take (l.piece * (l.geometry.fragments * l.geometry.shards)) l.out
    ≡ flat_map (blocks_at l.geometry l.file l.random) (range_with_len 0 l.piece)
