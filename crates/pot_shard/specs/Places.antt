-- The blocks of a file by their place: piece i, fragment j and point p + 1, all counted from 0.
use Rattle.std.specs.Prelude.{◌≡◌, ◌<◌, ℕ, ◌+◌, ◌*◌, List, length, drop, slice_get, slice_index}
use Rattle.std.specs.Prelude.{slice_index_or, Some}
use Rattle.pot_bytes.specs.Lists.{AreBytes, IsBlock}
use Rattle.pot_bytes.specs.declared.rack.Geometry.{Geometry}
use Rattle.pot_bytes.specs.declared.rack.Place.{Place}
use Rattle.pot_bytes.specs.Rack.{no_place}
use Rattle.pot_gf.specs.Polynomials.{value, IsBelowDegree}
use Rattle.pot_object.specs.Pieces.{content_size, pieces_of}
use Rattle.pot_shard.specs.FileBlocks.{file_blocks, fragment_len, head_len, part_at, piece_random}
use Rattle.pot_shard.specs.FileBlocks.{shard_at_place}
use Rattle.pot_shard.specs.FileLaws.{content_in, IsStore}
use Rattle.pot_shard.specs.Shards.{shard_bytes}
use Rattle.pot_shard.specs.declared.shard.Shard.{Shard}

-- the position of a block in the list of all
abbrev pub position : Geometry → ℕ → ℕ → ℕ → ℕ
position g i j p = (i * g.fragments + j) * g.shards + p

-- the place of a block, where these are the places of all
abbrev pub place_at : Geometry → List Place → ℕ → ℕ → ℕ → Place
place_at g places i j p = slice_index_or places (position g i j p) no_place

-- the random bytes of fragment j of piece i
abbrev pub fragment_random : Geometry → List ℕ → ℕ → ℕ → List ℕ
fragment_random g random i j = part_at (head_len g) (fragment_len g) j (piece_random g i random)

-- the shard at a place
abbrev pub shard_in : Geometry → List ℕ → List ℕ → ℕ → ℕ → ℕ → Shard
shard_in g file random i j p =
    shard_at_place g (content_in g file random i j) (fragment_random g random i j) p

-- the block at a place
abbrev pub block_in : Geometry → List ℕ → List ℕ → ℕ → ℕ → ℕ → List ℕ
block_in g file random i j p = shard_bytes (shard_in g file random i j p)

-- What stands where.
pub record PlaceLaws : Type 0 where
  -- so many blocks has a file
  pub count : (g : Geometry) (file random : List ℕ)
      → length (file_blocks g file random) ≡ pieces_of (length file) * (g.fragments * g.shards)
  -- and each stands at its position
  pub each : (g : Geometry) (file random : List ℕ) (i j p : ℕ) → i < pieces_of (length file)
      → j < g.fragments → p < g.shards
      → slice_get (file_blocks g file random) (position g i j p)
      ≡ Some (block_in g file random i j p)
  -- it is a block, of the shard at that point, with its share from byte 32 on
  pub block : (g : Geometry) (file random : List ℕ) (i j p : ℕ) → IsStore g file random
      → i < pieces_of (length file) → j < g.fragments → p < g.shards
      → IsBlock (block_in g file random i j p)
  pub point : (g : Geometry) (file random : List ℕ) (i j p : ℕ)
      → (shard_in g file random i j p).x ≡ p + 1
  pub share : (g : Geometry) (file random : List ℕ) (i j p : ℕ)
      → drop 32 (block_in g file random i j p) ≡ (shard_in g file random i j p).share
  -- A ring closes: at each place of a share the n shares of a fragment are the values at their
  -- points of one polynomial of degree below m, whose constant term is the byte of the content
  -- there.
  pub closes : (g : Geometry) (file random : List ℕ) (i j k : ℕ) → IsStore g file random
      → i < pieces_of (length file) → j < g.fragments → k < content_size
      → (q : List ℕ) × AreBytes q × IsBelowDegree g.need q
      × (slice_index q 0 ≡ slice_index (content_in g file random i j) k)
      × ((p : ℕ) → p < g.shards
      → slice_index (shard_in g file random i j p).share k ≡ value q (p + 1))
