use Rattle.std.proofs.Common.{◌≡◌, take}
use Rattle.pot_shard.specs.FileBlocks.{names_at}
use Rattle.pot_shard.proofs.random.read_names.Given as goal

abbrev pub invariant-loop-place : goal.invariant-loop-place
invariant-loop-place l = take l.place l.names ≡ names_at l.place l.bytes
