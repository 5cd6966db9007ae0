-- The bytes of an object.
use Rattle.std.specs.Prelude.{◌≡◌, ◌≤◌, ◌<◌, ℕ, ◌-◌, ◌*◌, List, ◌++◌, length, take, drop, min}
use Rattle.std.specs.Prelude.{replicate}
use Rattle.byteorder.specs.Endian.{big_bytes, big_number}
use Rattle.pot_object.specs.Pieces.{longest, piece_size, pieces_of, part_of}
use Rattle.pot_object.specs.Sealing.{sealed}
use Rattle.pot_object.specs.declared.object.ObjectHead.{ObjectHead}

-- the file id, and the piece, the number of pieces and the length with the highest byte first
unfoldable pub head_bytes : ObjectHead → List ℕ
head_bytes h = h.file_id ++ big_bytes 4 h.piece ++ big_bytes 4 h.pieces ++ big_bytes 8 h.length

-- the object that carries a part of a file under this head: the part has zeros behind it up to 864
-- bytes
unfoldable pub object_bytes : ObjectHead → List ℕ → List ℕ
object_bytes h part = sealed (head_bytes h) (part ++ replicate (piece_size - length part) 0)

-- the head of a piece of a file
abbrev pub head_of : List ℕ → List ℕ → ℕ → ObjectHead
head_of id file piece =
    record { file_id = id; piece = piece; pieces = pieces_of (length file); length = length file }

-- the object of a piece of a file
unfoldable pub object : List ℕ → List ℕ → ℕ → List ℕ
object id file piece = object_bytes (head_of id file piece) (part_of file piece)

-- a head that some file has
pub record IsObjectHead (h : ObjectHead) : Type 0 where
  pub id : length h.file_id ≡ 16
  pub fits : h.length ≤ longest
  pub cut : h.pieces ≡ pieces_of h.length
  pub exists : h.piece < h.pieces

-- how many bytes of the file the piece carries
abbrev pub part_length : ObjectHead → ℕ
part_length h = min piece_size (h.length - h.piece * piece_size)

-- these bytes are the object of this head and of the part that stands from byte 64 on
pub record IsObject (h : ObjectHead) (bytes : List ℕ) : Type 0 where
  pub head : IsObjectHead h
  pub spelled : bytes ≡ object_bytes h (take (part_length h) (drop 64 bytes))

-- the fields where a head has them
abbrev pub head_at : List ℕ → ObjectHead
head_at bytes = record {
  file_id = take 16 bytes;
  piece = big_number 4 (drop 16 bytes);
  pieces = big_number 4 (drop 20 bytes);
  length = big_number 8 (drop 24 bytes);
}
