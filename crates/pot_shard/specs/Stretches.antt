-- Which stretches of the random bytes of a file its pieces and fragments use.
use Rattle.std.specs.Prelude.{◌≡◌, ◌≤◌, ◌<◌, ℕ, ◌+◌, ◌*◌, List, take, drop}
use Rattle.pot_bytes.specs.declared.rack.Geometry.{Geometry}
use Rattle.pot_shard.specs.FileBlocks.{blocks_at, fragment_len, head_len, part_at, piece_len}
use Rattle.pot_shard.specs.FileBlocks.{piece_random}
use Rattle.pot_shard.specs.FileLaws.{shards_in}

-- where those of piece i begin
abbrev pub piece_start : Geometry → ℕ → ℕ
piece_start g i = 16 + i * piece_len g

-- where those of fragment j of piece i begin
abbrev pub fragment_start : Geometry → ℕ → ℕ → ℕ
fragment_start g i j = piece_start g i + head_len g + j * fragment_len g

-- Beside the file id a piece uses its stretch alone, and a fragment of it the head of that stretch,
-- which has the object id and the pads, and a stretch of its own. The stretches of two pieces are
-- disjoint, and so are those of two fragments.
pub record StretchLaws : Type 0 where
  pub piece_bytes : (g : Geometry) (random : List ℕ) (i : ℕ)
      → piece_random g i random ≡ take (piece_len g) (drop (piece_start g i) random)
  pub fragment_bytes : (g : Geometry) (random : List ℕ) (i j : ℕ) → j < g.fragments
      → part_at (head_len g) (fragment_len g) j (piece_random g i random)
      ≡ take (fragment_len g) (drop (fragment_start g i j) random)
  pub pieces_apart : (g : Geometry) (i o : ℕ) → i < o
      → piece_start g i + piece_len g ≤ piece_start g o
  pub fragments_apart : (g : Geometry) (i j l : ℕ) → j < l
      → fragment_start g i j + fragment_len g ≤ fragment_start g i l
  pub behind_the_pads : (g : Geometry) (i j : ℕ)
      → piece_start g i + head_len g ≤ fragment_start g i j
  pub within_the_piece : (g : Geometry) (i j : ℕ) → j < g.fragments
      → fragment_start g i j + fragment_len g ≤ piece_start g i + piece_len g
  pub piece_alone : (g : Geometry) (file random other : List ℕ) (i : ℕ)
      → take 16 random ≡ take 16 other → piece_random g i random ≡ piece_random g i other
      → blocks_at g file random i ≡ blocks_at g file other i
  pub fragment_alone : (g : Geometry) (file random other : List ℕ) (i j : ℕ)
      → take 16 random ≡ take 16 other
      → take (head_len g) (piece_random g i random) ≡ take (head_len g) (piece_random g i other)
      → part_at (head_len g) (fragment_len g) j (piece_random g i random)
      ≡ part_at (head_len g) (fragment_len g) j (piece_random g i other)
      → shards_in g file random i j ≡ shards_in g file other i j
