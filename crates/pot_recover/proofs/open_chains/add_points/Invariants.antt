use Rattle.std.proofs.Common.{◌≡◌, ◌<◌, ◌≤◌, map}
use Rattle.pot_recover.specs.HeldShards.{shard_of}
use Rattle.pot_recover.specs.OpenScopes.{HasSearchedOpen}
use Rattle.pot_recover.proofs.open_chains.add_points.Given as goal
use Rattle.pot_shard.specs.declared.shard.Shard.{Shard}

abbrev pub invariant-loop-first : goal.invariant-loop-first
invariant-loop-first l =
    HasSearchedOpen (map (shard_of l.bits) l.held) (λ (s : Shard). ((s.m ≡ l.need) × (s.n ≡ l.shards)) × (s.x < l.first)) l.fn.count l.count l.fn.found.items l.found.items × (l.count ≤ 4000000)
