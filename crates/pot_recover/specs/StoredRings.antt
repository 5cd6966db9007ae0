-- The rings that are stored are the rings that recovery speaks of.
use Rattle.std.specs.Prelude.{◌≡◌, ◌↔◌, ◌≤◌, ℕ, List, length}
use Rattle.pot_recover.specs.Rings.{IsRing}
use Rattle.pot_shard.specs.LinkedRings.{IsLinkedRing as IsStoredRing}
use Rattle.pot_shard.specs.declared.shard.Shard.{Shard}

-- Shards at the points 1 to n, each linked to the one at the next point, are a ring of n shards.
pub record LinkLaws : Type 0 where
  pub rings : (n : ℕ) (shards : List Shard) → 1 ≤ n
      → IsStoredRing n shards ↔ (IsRing shards × (length shards ≡ n))
