-- The fragments of a file as it is stored, and what recovery makes of them.
use Rattle.std.specs.Prelude.{◌<◌, ◌≤◌, ℕ, List, length}
use Rattle.pot_chains.specs.Listed.{IsIn}
use Rattle.pot_bytes.specs.declared.rack.Geometry.{Geometry}
use Rattle.pot_chains.specs.Paths.{AreAll}
use Rattle.pot_object.specs.Pieces.{pieces_of}
use Rattle.pot_recover.specs.Altered.{HasOtherShares, altered_shares}
use Rattle.pot_recover.specs.Held.{IsHeld}
use Rattle.pot_recover.specs.Recovered.{IsClosedIn, IsRecovered}
use Rattle.pot_recover.specs.Rings.{IsRing, ClosesRing}
use Rattle.pot_recover.specs.Robust.{IsRobustlyClosedIn}
use Rattle.pot_robust.specs.Robust.{borne}
use Rattle.pot_shard.specs.FileLaws.{IsStore, content_in, object_in, shards_in}
use Rattle.pot_shard.specs.Places.{block_in}
use Rattle.pot_shard.specs.declared.shard.Shard.{Shard}

-- Blocks hold the shards of fragment j of piece i, no more than half of those beyond m with another
-- share.
pub record IsAlmostHeld (blocks : List (List ℕ)) (bits : ℕ) (g : Geometry) (file random : List ℕ)
    (i j : ℕ) : Type 0 where
  pub shards : List Shard
  pub held : AreAll (IsHeld blocks bits) shards
  pub others : HasOtherShares (shards_in g file random i j) shards
  pub few : altered_shares (shards_in g file random i j) shards ≤ borne g.shards g.need

-- Of a file that was stored, its pieces and fragments counted from 0.
pub record StoredLaws : Type 0 where
  -- the shards of a fragment are a ring that closes with its content
  pub closes : (g : Geometry) (file random : List ℕ) (i j : ℕ) → IsStore g file random
      → i < pieces_of (length file) → j < g.fragments
      → IsRing (shards_in g file random i j)
      × ClosesRing (shards_in g file random i j) (content_in g file random i j)
  -- where blocks almost hold them they give this content robustly
  pub robustly : (g : Geometry) (file random : List ℕ) (i j : ℕ) → IsStore g file random
      → i < pieces_of (length file) → j < g.fragments
      → (blocks : List (List ℕ)) (bits : ℕ) → IsAlmostHeld blocks bits g file random i j
      → IsRobustlyClosedIn blocks bits (content_in g file random i j)
  -- The object of a piece is recovered from blocks among which all blocks of the piece stand,
  -- whatever others stand there,
  pub objects : (g : Geometry) (file random : List ℕ) (i : ℕ) → IsStore g file random
      → i < pieces_of (length file)
      → (blocks : List (List ℕ))
      → ((j p : ℕ) → j < g.fragments → p < g.shards → IsIn blocks (block_in g file random i j p))
      → IsRecovered (IsClosedIn blocks g.blur) (object_in file random i)
  -- and robustly from blocks that almost hold each fragment of it.
  pub robust_objects : (g : Geometry) (file random : List ℕ) (i : ℕ) → IsStore g file random
      → i < pieces_of (length file)
      → (blocks : List (List ℕ)) (bits : ℕ)
      → ((j : ℕ) → j < g.fragments → IsAlmostHeld blocks bits g file random i j)
      → IsRecovered (IsRobustlyClosedIn blocks bits) (object_in file random i)
