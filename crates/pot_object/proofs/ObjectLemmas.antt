-- The bytes of an object: how many, and where the part stands.
use Rattle.std.proofs.Common.{◌≡◌, ◌≤◌, ◌-◌, ◌++◌, ℕ, List, length, take, drop, replicate, refl, ap, ◌∙◌, arith, length-append}
use Rattle.std.proofs.lemmas.List.{length-replicate, take_all, take_at}
use Rattle.byteorder.specs.Endian.{big_bytes}
use Rattle.pot_object.specs.Pieces.{part_of}
use Rattle.pot_object.specs.Objects.{head_bytes, head_of, object, object_bytes}
use Rattle.pot_object.specs.declared.object.ObjectHead.{ObjectHead}
use Rattle.pot_object.proofs.PieceLemmas.{length-part_of}
use Rattle.pot_object.proofs.SealLemmas.{length-sealed, rest-sealed}

-- a head is 32 bytes
pub length-head_bytes : (h : ObjectHead) → length h.file_id ≡ 16 → length (head_bytes h) ≡ 32
unfolding head_bytes
length-head_bytes h whole =
    let a = h.file_id in
    let b = big_bytes 4 h.piece in
    let c = big_bytes 4 h.pieces in
    let d = big_bytes 8 h.length in
    omega (arith, whole, length-append {A = ℕ} ((a ++ b) ++ c) d, length-append {A = ℕ} (a ++ b) c, length-append {A = ℕ} a b)

-- a part with zeros behind it
pub length-padded : (n : ℕ) (part : List ℕ) → length part ≤ n → length (part ++ replicate (n - length part) 0) ≡ n
length-padded n part h =
    omega (arith, length-append {A = ℕ} part (replicate (n - length part) 0), length-replicate {A = ℕ} (n - length part) 0)

-- an object is 928 bytes
pub length-object : (id file : List ℕ) (piece : ℕ) → length id ≡ 16 → length (object id file piece) ≡ 928
unfolding object object_bytes
length-object id file piece whole =
    let head = head_bytes (head_of id file piece) in
    let part = part_of file piece in
    let zeros : List ℕ = replicate (864 - length part) 0 in
    omega (arith, length-sealed head (part ++ zeros), length-padded 864 part (length-part_of file piece), length-head_bytes (head_of id file piece) whole)

-- the part stands in an object from byte 64 on
pub part-object : (id file : List ℕ) (piece : ℕ) → length id ≡ 16
    → take (length (part_of file piece)) (drop 64 (object id file piece)) ≡ part_of file piece
unfolding object object_bytes
part-object id file piece whole =
    let head = head_bytes (head_of id file piece) in
    let part = part_of file piece in
    let zeros : List ℕ = replicate (864 - length part) 0 in
    ap (take (length part)) (rest-sealed head (part ++ zeros) (length-head_bytes (head_of id file piece) whole))
    ∙ take_at part zeros (length part) refl

-- a file of one piece is the part of its object
pub file-object : (id file : List ℕ) → length id ≡ 16 → length file ≤ 864
    → take (length file) (drop 64 (object id file 0)) ≡ file
file-object id file whole short =
    let same : part_of file 0 ≡ file = take_all 864 file short in
    rw same at (part-object id file 0 whole)
