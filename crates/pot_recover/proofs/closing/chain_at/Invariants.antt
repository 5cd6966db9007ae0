use Rattle.std.proofs.Common.{◌≡◌, map, take}
use Rattle.pot_recover.specs.Groups.{parts_of, shards_at}
use Rattle.pot_recover.specs.HeldShards.{shard_of}
use Rattle.pot_recover.proofs.closing.chain_at.Given as goal

abbrev pub invariant-loop-place : goal.invariant-loop-place
invariant-loop-place l = map (shard_of l.group.bits) l.chain.items ≡ take l.place (shards_at (parts_of l.group.bits l.group.parts.items) l.positions)
