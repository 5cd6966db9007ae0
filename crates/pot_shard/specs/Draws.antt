-- What a store draws from a stream, piece by piece.
use Rattle.std.specs.Prelude.{◌≡◌, ◌≤◌, ◌<◌, ℕ, List, length, take}
use Rattle.pot_bytes.specs.Lists.{AreBytes}
use Rattle.pot_bytes.specs.Rack.{IsGeometry}
use Rattle.pot_bytes.specs.declared.rack.Geometry.{Geometry}
use Rattle.pot_object.specs.Pieces.{longest, pieces_of}
use Rattle.pot_pads.specs.Pads.{Pads, next_bytes, moved}
use Rattle.pot_shard.specs.FileBlocks.{piece_len, piece_random, random_len}
use Rattle.pot_shard.specs.FileLaws.{IsStore}
use Rattle.pot_shard.specs.Stretches.{piece_start}

-- The next bytes of a stream are the random bytes of a store, and drawn piece by piece they are
-- those that the pieces take.
pub record DrawLaws : Type 0 where
  pub store : (g : Geometry) (pads : Pads) (file : List ℕ) → IsGeometry g → length file ≤ longest
      → AreBytes file
      → IsStore g file (next_bytes pads (random_len (pieces_of (length file)) g))
  pub id : (g : Geometry) (pads : Pads) (pieces : ℕ)
      → take 16 (next_bytes pads (random_len pieces g)) ≡ next_bytes pads 16
  pub piece : (g : Geometry) (pads : Pads) (pieces i : ℕ) → i < pieces
      → piece_random g i (next_bytes pads (random_len pieces g))
      ≡ next_bytes (moved pads (piece_start g i)) (piece_len g)
