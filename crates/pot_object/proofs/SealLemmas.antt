-- What is sealed: its length, its parts, and when bytes are sealed.
use Rattle.std.proofs.Common.{◌≡◌, ◌≤◌, ◌+◌, ◌++◌, ℕ, List, length, take, drop, ap, sym, ◌∙◌, arith, length-append}
use Rattle.std.proofs.Math.Seq.{take-add}
use Rattle.std.proofs.lemmas.List.{append_assoc, drop_at, length-take-le, take_at, take-append-drop}
use Rattle.pot_bytes.specs.Digests.{digest_bytes}
use Rattle.pot_bytes.proofs.DigestLemmas.{length-digest_bytes}
use Rattle.pot_object.specs.Sealing.{sealed}

-- what is sealed is 32 bytes longer than its head and its rest
pub length-sealed : (head rest : List ℕ) → length (sealed head rest) ≡ length head + 32 + length rest
length-sealed head rest =
    let digest = digest_bytes (head ++ rest) in
    omega (arith, length-append {A = ℕ} (head ++ digest) rest, length-append {A = ℕ} head digest, length-digest_bytes (head ++ rest))

-- the rest of what is sealed
pub rest-sealed : (head rest : List ℕ) → length head ≡ 32 → drop 64 (sealed head rest) ≡ rest
rest-sealed head rest whole =
    let digest = digest_bytes (head ++ rest) in
    drop_at (head ++ digest) rest 64 (omega (arith, length-append {A = ℕ} head digest, length-digest_bytes (head ++ rest)))

-- the head of what is sealed
pub head-sealed : (head rest : List ℕ) → length head ≡ 32 → take 32 (sealed head rest) ≡ head
head-sealed head rest whole =
    let digest = digest_bytes (head ++ rest) in
    ap (take 32) (append_assoc head digest rest) ∙ take_at head (digest ++ rest) 32 whole

-- the digest of what is sealed
pub digest-sealed : (head rest : List ℕ) → length head ≡ 32 → take 32 (drop 32 (sealed head rest)) ≡ digest_bytes (head ++ rest)
digest-sealed head rest whole =
    let digest = digest_bytes (head ++ rest) in
    ap (λ (z : List ℕ). take 32 (drop 32 z)) (append_assoc head digest rest)
    ∙ ap (take 32) (drop_at head (digest ++ rest) 32 whole)
    ∙ take_at digest rest 32 (length-digest_bytes (head ++ rest))

-- what is sealed is sealed over the head and the rest that stand in it
pub sealed_again : (bytes head rest : List ℕ) → length head ≡ 32 → bytes ≡ sealed head rest
    → bytes ≡ sealed (take 32 bytes) (drop 64 bytes)
sealed_again bytes head rest whole e =
    let front : take 32 bytes ≡ head = ap (take 32) e ∙ head-sealed head rest whole in
    let back : drop 64 bytes ≡ rest = ap (drop 64) e ∙ rest-sealed head rest whole in
    e ∙ ap (λ (z : List ℕ). sealed z rest) (sym front) ∙ ap (λ (z : List ℕ). sealed (take 32 bytes) z) (sym back)

-- the digest that stands in bytes 32..64 is the right one exactly where the bytes are sealed
pub digest_of_sealed : (bytes : List ℕ) → 64 ≤ length bytes → bytes ≡ sealed (take 32 bytes) (drop 64 bytes)
    → take 32 (drop 32 bytes) ≡ digest_bytes (take 32 bytes ++ drop 64 bytes)
digest_of_sealed bytes long e =
    ap (λ (z : List ℕ). take 32 (drop 32 z)) e ∙ digest-sealed (take 32 bytes) (drop 64 bytes) (length-take-le 32 bytes (omega arith))

pub sealed_by_digest : (bytes : List ℕ) → take 32 (drop 32 bytes) ≡ digest_bytes (take 32 bytes ++ drop 64 bytes)
    → bytes ≡ sealed (take 32 bytes) (drop 64 bytes)
sealed_by_digest bytes e =
    sym (take-append-drop 64 bytes) ∙ ap (λ (z : List ℕ). z ++ drop 64 bytes) (take-add 32 32 bytes)
    ∙ ap (λ (z : List ℕ). take 32 bytes ++ z ++ drop 64 bytes) e
