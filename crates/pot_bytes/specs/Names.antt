-- The names of stored files.
use Rattle.std.specs.Prelude.{◌≡◌, ◌≤◌, ◌-◌, ◌++◌, ◌||◌, ◌&&◌, ◌==◌, ℕ, List, Bool, length, take}
use Rattle.std.specs.Prelude.{drop, replicate, nat_le, IsTrue, All}
use Rattle.std.proofs.Common.{arith}
use Rattle.std.proofs.lemmas.List.{length-take-le, take-append-drop}

-- a byte of a name: a letter of `a-z`, a digit, a point, a low line or a dash
abbrev pub is_name_byte : ℕ → Bool
is_name_byte b =
    (nat_le 97 b && nat_le b 122) || (nat_le 48 b && nat_le b 57) || (b == 46) || (b == 95)
    || (b == 45)

-- 1 to 64 bytes of a name
pub record IsName (bytes : List ℕ) : Type 0 where
  pub some : 1 ≤ length bytes
  pub few : length bytes ≤ 64
  pub each : All (λ b. IsTrue (is_name_byte b)) bytes

-- a name of `count` bytes, kept in 64 bytes with zeros behind it
pub record IsPadded (count : ℕ) (kept : List ℕ) : Type 0 where
  pub whole : length kept ≡ 64
  pub name : IsName (take count kept)
  pub fits : count ≤ 64
  pub zeros : drop count kept ≡ replicate (64 - count) 0

-- what is kept is the name and the zeros
pub padded-count : (count : ℕ) (kept : List ℕ) → IsPadded count kept
    → length (take count kept) ≡ count
padded-count count kept p = length-take-le count kept (omega (arith, p.whole, p.fits))

pub padded-bytes : (count : ℕ) (kept : List ℕ) → IsPadded count kept
    → take count kept ++ replicate (64 - length (take count kept)) 0 ≡ kept
padded-bytes count kept p =
    rw (padded-count count kept p, ← p.zeros) (take-append-drop count kept)
