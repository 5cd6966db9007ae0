use Rattle.std.proofs.Common.{◌≡◌, ◌<◌, ◌≤◌, map}
use Rattle.pot_recover.specs.HeldShards.{shard_of}
use Rattle.pot_recover.specs.LongScopes.{HasSearchedLong}
use Rattle.pot_recover.proofs.robust_rings.add_needing.Given as goal

abbrev pub invariant-loop-shards : goal.invariant-loop-shards
invariant-loop-shards l =
    HasSearchedLong (map (shard_of l.bits) l.held) (λ m n. (m ≡ l.need) × (n < l.shards)) l.fn.count l.count l.fn.found.items l.found.items × (l.count ≤ 4000000)
