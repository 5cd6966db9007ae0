-- The blocks of a file: how the random bytes of a store are cut, and the shards that they give.
use Rattle.std.specs.Prelude.{ℕ, ◌+◌, ◌-◌, ◌*◌, List, length, map, take, drop, slice_index}
use Rattle.std.specs.List.{flat_map, range_with_len}
use Rattle.byteorder.specs.Endian.{big_number}
use Rattle.pot_bytes.specs.declared.rack.Geometry.{Geometry}
use Rattle.pot_object.specs.Contents.{content}
use Rattle.pot_object.specs.Objects.{object}
use Rattle.pot_object.specs.Pieces.{content_size, object_size, pieces_of}
use Rattle.pot_shard.specs.Rings.{ring}
use Rattle.pot_shard.specs.Shards.{shard_bytes}
use Rattle.pot_shard.specs.declared.shard.Shard.{Shard}
use Rattle.pot_split.specs.Secrecy.{secrecy}
use Rattle.pot_split.specs.Threshold.{share}

-- how many random bytes a fragment takes: m - 1 rows of 992 coefficients, and n names of 8 bytes
abbrev pub fragment_len : Geometry → ℕ
fragment_len g = (g.need - 1) * content_size + g.shards * 8

-- how many the object of a piece takes before its fragments: 16 of object id, and k - 1 pads of 928
abbrev pub head_len : Geometry → ℕ
head_len g = 16 + (g.fragments - 1) * object_size

-- how many a piece takes: those of its object, and those of its k fragments
abbrev pub piece_len : Geometry → ℕ
piece_len g = head_len g + g.fragments * fragment_len g

-- how many a file of so many pieces takes: 16 of file id, and those of its pieces
abbrev pub random_len : ℕ → Geometry → ℕ
random_len pieces g = 16 + pieces * piece_len g

-- part number i of parts of this size that stand behind a head
abbrev pub part_at : ℕ → ℕ → ℕ → List ℕ → List ℕ
part_at head size i bytes = take size (drop (head + i * size) bytes)

-- the rows of coefficients in the random bytes of a fragment
abbrev pub coefficients_in : Geometry → List ℕ → List ℕ
coefficients_in g random = take ((g.need - 1) * content_size) random

-- names that stand one after another, each of 8 bytes with its highest byte first
abbrev pub names_at : ℕ → List ℕ → List ℕ
names_at count bytes = map (λ i. big_number 8 (drop (i * 8) bytes)) (range_with_len 0 count)

-- the names behind the rows
abbrev pub names_in : Geometry → List ℕ → List ℕ
names_in g random = names_at g.shards (drop ((g.need - 1) * content_size) random)

-- the shard of a content at the point after `place`, by its coefficients, its name and its pointer
unfoldable pub shard_of : Geometry → List ℕ → List ℕ → ℕ → ℕ → ℕ → Shard
shard_of g content coefficients place name pointer = record {
  x = place + 1;
  m = g.need;
  n = g.shards;
  blur = g.blur;
  name = name;
  pointer = pointer;
  share = share content coefficients (place + 1);
}

-- the shard at the point after `place`, in the ring of the names, by the random bytes of the
-- fragment
abbrev pub shard_at_place : Geometry → List ℕ → List ℕ → ℕ → Shard
shard_at_place g content random place =
    shard_of g content (coefficients_in g random) place
    (slice_index (names_in g random) place)
    (slice_index (ring (names_in g random) g.blur) place)

-- the shards of a content, by point
unfoldable pub content_shards : Geometry → List ℕ → List ℕ → List Shard
content_shards g content random = map (shard_at_place g content random) (range_with_len 0 g.shards)

-- the pads in the random bytes of a piece
abbrev pub pads_in : Geometry → List ℕ → List ℕ
pads_in g random = take ((g.fragments - 1) * object_size) (drop 16 random)

-- the fragments of an object, row by row: its pads and the last fragment
abbrev pub fragments_of : Geometry → List ℕ → List ℕ → List ℕ
fragments_of g object random = secrecy object (pads_in g random)

-- the content of fragment j, from 0, whose number is j + 1
unfoldable pub content_of : Geometry → List ℕ → List ℕ → ℕ → List ℕ
content_of g fragments random j =
    content (take 16 random) (j + 1) g.fragments (part_at 0 object_size j fragments)

-- the shards of fragment j, from 0
unfoldable pub fragment_shards : Geometry → List ℕ → List ℕ → ℕ → List Shard
fragment_shards g fragments random j =
    content_shards g (content_of g fragments random j)
    (part_at (head_len g) (fragment_len g) j random)

-- the shards of an object, by fragment and point
unfoldable pub object_shards : Geometry → List ℕ → List ℕ → List Shard
object_shards g object random =
    flat_map (fragment_shards g (fragments_of g object random) random)
    (range_with_len 0 g.fragments)

-- the blocks of a piece of a file, by its own random bytes
unfoldable pub piece_blocks : Geometry → List ℕ → List ℕ → ℕ → List ℕ → List (List ℕ)
piece_blocks g id file piece random =
    map shard_bytes (object_shards g (object id file piece) random)

-- the random bytes of a piece in those of its file
abbrev pub piece_random : Geometry → ℕ → List ℕ → List ℕ
piece_random g piece random = part_at 16 (piece_len g) piece random

-- the blocks of a piece, by the random bytes of the file
abbrev pub blocks_at : Geometry → List ℕ → List ℕ → ℕ → List (List ℕ)
blocks_at g file random piece =
    piece_blocks g (take 16 random) file piece (piece_random g piece random)

-- the blocks of a file, by piece, fragment and point
abbrev pub file_blocks : Geometry → List ℕ → List ℕ → List (List ℕ)
file_blocks g file random =
    flat_map (blocks_at g file random) (range_with_len 0 (pieces_of (length file)))
