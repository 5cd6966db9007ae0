-- A number that was read from bytes is written to the same bytes again.
use Rattle.std.proofs.Common.{◌≡◌, ◌≤◌, ℕ, List, length, take, sym, ◌∙◌, arith}
use Rattle.std.proofs.lemmas.List.{length-take-le}
use Rattle.std.proofs.lemmas.Nat.{be_bytes_4, be_bytes_8}
use Rattle.std.specs.Int.{w32, w64, from_be_bytes}
use Rattle.byteorder.specs.Endian.{big_bytes, big_number}
use Rattle.byteorder.specs.Numbers.{big_from-take}
use Rattle.pot_bytes.specs.Lists.{AreBytes}
use Rattle.pot_bytes.proofs.ListLemmas.{AreBytes-take}

-- a number that was read is written again
number_4 : (bs : List ℕ) (n : ℕ) → length bs ≡ 4 → AreBytes bs → n ≡ big_number 4 bs → big_bytes 4 n ≡ bs
number_4 bs n long small e =
    let same : big_number 4 bs ≡ from_be_bytes w32 bs = omega arith in
    be_bytes_4 bs n long small (e ∙ same)

number_8 : (bs : List ℕ) (n : ℕ) → length bs ≡ 8 → AreBytes bs → n ≡ big_number 8 bs → big_bytes 8 n ≡ bs
number_8 bs n long small e =
    let same : big_number 8 bs ≡ from_be_bytes w64 bs = omega arith in
    be_bytes_8 bs n long small (e ∙ same)

pub big_bytes_4 : (xs : List ℕ) → AreBytes xs → 4 ≤ length xs → big_bytes 4 (big_number 4 xs) ≡ take 4 xs
big_bytes_4 xs small long =
    number_4 (take 4 xs) (big_number 4 xs) (length-take-le 4 xs long) (AreBytes-take 4 xs small) (sym (big_from-take 0 4 4 xs (omega arith)))

pub big_bytes_8 : (xs : List ℕ) → AreBytes xs → 8 ≤ length xs → big_bytes 8 (big_number 8 xs) ≡ take 8 xs
big_bytes_8 xs small long =
    number_8 (take 8 xs) (big_number 8 xs) (length-take-le 8 xs long) (AreBytes-take 8 xs small) (sym (big_from-take 0 8 8 xs (omega arith)))
