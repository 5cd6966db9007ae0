-- A name and the zeros behind it.
use Rattle.std.proofs.Common.{◌≡◌, ◌≤◌, ◌-◌, ◌++◌, ℕ, List, length, drop, replicate, ◌∙◌, arith, length-append, length-drop}
use Rattle.std.proofs.Math.Seq.{take-append_seam, drop-append_seam}
use Rattle.std.proofs.lemmas.List.{length-replicate, drop-replicate}
use Rattle.pot_bytes.specs.Names.{IsName, IsPadded}

padded-length : (n : ℕ) (xs : List ℕ) → length xs ≤ n → length (xs ++ drop (length xs) (replicate n 0)) ≡ n
padded-length n xs h =
    omega (arith, length-append {A = ℕ} xs (drop (length xs) (replicate n 0)), length-drop {A = ℕ} (length xs) (replicate n 0), length-replicate {A = ℕ} n 0)

padded-zeros : (n : ℕ) (xs : List ℕ) → drop (length xs) (xs ++ drop (length xs) (replicate n 0)) ≡ replicate (n - length xs) 0
padded-zeros n xs = drop-append_seam xs (drop (length xs) (replicate n 0)) ∙ drop-replicate (length xs) n 0

pub name-padded : (bytes : List ℕ) → IsName bytes → IsPadded (length bytes) (bytes ++ drop (length bytes) (replicate 64 0))
name-padded bytes n = record {
  whole = padded-length 64 bytes n.few;
  name = rw (take-append_seam bytes (drop (length bytes) (replicate 64 0))) n;
  fits = n.few;
  zeros = padded-zeros 64 bytes;
}
