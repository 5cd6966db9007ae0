-- The pieces of a file.
use Rattle.std.proofs.Common.{◌≡◌, ◌≤◌, ◌<◌, ◌+◌, ◌-◌, ◌*◌, ℕ, List, length, take, drop, min, arith, length-drop}
use Rattle.std.proofs.lemmas.List.{length-take, take_min}
use Rattle.pot_object.specs.Pieces.{part_of, pieces_of}

-- a part has 864 bytes at most
pub length-part_of : (file : List ℕ) (piece : ℕ) → length (part_of file piece) ≤ 864
length-part_of file piece = omega (arith, length-take {A = ℕ} 864 (drop (piece * 864) file))

-- the bytes of a slice up to its end, or a length behind its start
pub cut-part : (file : List ℕ) (from n : ℕ) → from ≤ length file
    → take (min (length file) (from + n) - from) (drop from file) ≡ take n (drop from file)
cut-part file from n inside =
    let same : min (length file) (from + n) - from ≡ min n (length (drop from file)) = omega (arith, length-drop {A = ℕ} from file) in
    rw same (take_min n (drop from file))

-- a piece that exists begins within the file
pub piece_begins : (piece n : ℕ) → piece < pieces_of n → piece * 864 ≤ n
piece_begins piece n exists = omega arith
