-- The pieces of a file.
use Rattle.std.specs.Prelude.{ℕ, ◌*◌, List, take, drop, max}
use Rattle.std.specs.Int.{div_ceil}

-- the bytes of a file that one piece takes
abbrev pub piece_size : ℕ
piece_size = 864

-- the bytes of the object that carries a piece
abbrev pub object_size : ℕ
object_size = 928

-- the bytes of the content that carries a fragment of an object, and of each of its shares
abbrev pub content_size : ℕ
content_size = 992

-- the bytes of the longest file, 1,024 pieces of 864
abbrev pub longest : ℕ
longest = 884736

-- the number of pieces of a file of this length: 864 bytes each, and one for the empty file
abbrev pub pieces_of : ℕ → ℕ
pieces_of n = max 1 (div_ceil n piece_size)

-- the part of a file that a piece carries: 864 bytes, or those that are left
abbrev pub part_of : List ℕ → ℕ → List ℕ
part_of file piece = take piece_size (drop (piece * piece_size) file)
