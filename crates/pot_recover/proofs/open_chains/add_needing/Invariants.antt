use Rattle.std.proofs.Common.{◌≡◌, ◌<◌, ◌≤◌, map}
use Rattle.pot_recover.specs.HeldShards.{shard_of}
use Rattle.pot_recover.specs.OpenScopes.{HasSearchedOpen}
use Rattle.pot_recover.proofs.open_chains.add_needing.Given as goal
use Rattle.pot_shard.specs.declared.shard.Shard.{Shard}

abbrev pub invariant-loop-shards : goal.invariant-loop-shards
invariant-loop-shards l =
    HasSearchedOpen (map (shard_of l.bits) l.held) (λ (s : Shard). (s.m ≡ l.need) × (s.n < l.shards)) l.fn.count l.count l.fn.found.items l.found.items × (l.count ≤ 4000000)
