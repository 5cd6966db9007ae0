-- The blocks of a file as a store draws them, piece by piece.
use Rattle.std.specs.Prelude.{◌≡◌, ◌≤◌, ◌<◌, ℕ, ◌-◌, ◌*◌, List, length}
use Rattle.pot_bytes.specs.Rack.{IsGeometry}
use Rattle.pot_bytes.specs.declared.rack.Geometry.{Geometry}
use Rattle.pot_object.specs.Pieces.{longest, pieces_of}
use Rattle.pot_pads.specs.Pads.{Pads, next_bytes, moved}
use Rattle.pot_shard.specs.FileBlocks.{blocks_at, file_blocks, piece_len, random_len}
use Rattle.pot_shard.specs.Stretches.{piece_start}

-- what a contract sees of a drawing: the geometry, the file, the stream as it was handed in, and
-- how many blocks were handed out
pub record Drawn : Type 0 where
  pub geometry : Geometry
  pub file : List ℕ
  pub start : Pads
  pub next : ℕ

-- the random bytes of a file, which are the next ones of a stream
abbrev pub random_from : Geometry → List ℕ → Pads → List ℕ
random_from g file start = next_bytes start (random_len (pieces_of (length file)) g)

-- the blocks of a file by the next bytes of a stream
abbrev pub blocks_from : Geometry → List ℕ → Pads → List (List ℕ)
blocks_from g file start = file_blocks g file (random_from g file start)

-- all blocks that a drawing hands out, one after another
abbrev pub all_blocks : Drawn → List (List ℕ)
all_blocks d = blocks_from d.geometry d.file d.start

-- how many these are
abbrev pub count_of : Drawn → ℕ
count_of d = pieces_of (length d.file) * (d.geometry.fragments * d.geometry.shards)

-- So many pieces were drawn, and so many blocks of the last one were not handed out yet: the stream
-- stands behind the random bytes of these pieces, and the blocks at hand are those of the last
-- piece.
pub record IsDrawing (g : Geometry) (file : List ℕ) (start pads : Pads) (id random : List ℕ)
    (blocks : List (List ℕ)) (piece left : ℕ)
    : Type 0 where
  pub geometry : IsGeometry g
  pub fits : length file ≤ longest
  pub id_is : id ≡ next_bytes start 16
  pub place : pads ≡ moved start (piece_start g piece)
  pub random_room : length random ≡ piece_len g
  pub block_room : length blocks ≡ g.fragments * g.shards
  pub within : piece ≤ pieces_of (length file)
  pub few : left ≤ g.fragments * g.shards
  pub drawn : 0 < left
      → (1 ≤ piece) × (blocks ≡ blocks_at g file (random_from g file start) (piece - 1))
