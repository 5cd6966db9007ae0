use Rattle.std.proofs.Common.{◌↔◌, ◌-◌, ℕ, length, map}
use Rattle.pot_chains.specs.Listed.{IsIn}
use Rattle.pot_recover.specs.Groups.{shards_in}
use Rattle.pot_recover.specs.HeldShards.{shard_of}
use Rattle.pot_recover.specs.Sets.{IsPointed}
use Rattle.pot_recover.proofs.NextLemmas.{last_shard}
use Rattle.pot_recover.proofs.closing.returns_to_first.Given as goal

abbrev pub invariant-loop-place : goal.invariant-loop-place
invariant-loop-place l =
    (p : ℕ) → IsIn l.pointers.items p
    ↔ IsPointed (IsIn (shards_in l.group)) (map (shard_of l.group.bits) l.chain) (last_shard (map (shard_of l.group.bits) l.chain)) (l.place - length l.chain) p
