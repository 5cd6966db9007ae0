use Rattle.std.proofs.Common.{◌≡◌, take, map}
use Rattle.std.specs.List.{range_with_len}
use Rattle.pot_shard.specs.FileBlocks.{shard_at_place}
use Rattle.pot_shard.specs.Shards.{shard_bytes}
use Rattle.pot_shard.proofs.blocks.content_blocks.Given as goal

abbrev pub invariant-loop-place : goal.invariant-loop-place
invariant-loop-place l =
    take l.place l.out ≡ map (λ i. shard_bytes (shard_at_place l.geometry l.content l.random i)) (range_with_len 0 l.place)
