use Rattle.std.proofs.Common.{◌≡◌, ◌*◌, take, map}
use Rattle.std.specs.List.{flat_map, range_with_len}
use Rattle.pot_shard.specs.FileBlocks.{fragment_shards, fragments_of}
use Rattle.pot_shard.specs.Shards.{shard_bytes}
use Rattle.pot_shard.proofs.blocks.object_blocks.Given as goal

abbrev pub invariant-loop-number : goal.invariant-loop-number
invariant-loop-number l =
    take (l.number * l.geometry.shards) l.out
    ≡ flat_map (λ j. map shard_bytes (fragment_shards l.geometry (fragments_of l.geometry l.object l.random) l.random j)) (range_with_len 0 l.number)
