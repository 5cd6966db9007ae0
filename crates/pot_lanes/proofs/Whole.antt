-- A message taken in by its whole blocks, and then by its last bytes with the padding.
use Rattle.std.proofs.Common.{◌≡◌, ℕ, zero, suc, ◌+◌, ◌-◌, ◌*◌, ◌/◌, ◌%◌, ◌^◌, List, ◌++◌, length, take, drop, replicate, refl, sym, ap, ◌∙◌, arith, add-zero, length-append, length-drop, append_assoc}
use Rattle.std.proofs.Math.Seq.{drop-append-add}
use Rattle.std.proofs.lemmas.List.{length-take-le, length-replicate, take-append-drop, take_all}
use Rattle.std.specs.Int.{w64, to_be_bytes}
use Rattle.sha2.specs.Sha256.{digest_bytes, final_hash, hash_after, initial_hash_256, padded_message, padding, sha256}
use Rattle.sha2.proofs.Absorbing256.{hash_after-append, hash_after_next}
use Rattle.pot_lanes.specs.Lanes.{nth}

-- the same part of each of four
pub nth_part : (l k j w : ℕ) (a b c d : List ℕ) → k ≡ j → w ≡ 64
    → nth l (take w (drop k a)) (take w (drop k b)) (take w (drop k c)) (take w (drop k d)) ≡ take 64 (drop j (nth l a b c d))
nth_part zero k j w a b c d e f = rw (e, f) refl
nth_part (suc zero) k j w a b c d e f = rw (e, f) refl
nth_part (suc (suc zero)) k j w a b c d e f = rw (e, f) refl
nth_part (suc (suc (suc l))) k j w a b c d e f = rw (e, f) refl

length-padding : (n : ℕ) → length (padding n) ≡ 9 + (119 - n % 64) % 64
length-padding n =
    let zeros = length-replicate {A = ℕ} ((119 - n % 64) % 64) 0 in
    let both = length-append (replicate {A = ℕ} ((119 - n % 64) % 64) 0) (to_be_bytes w64 (n * 8 % 2 ^ 64)) in
    let eight : length (to_be_bytes w64 (n * 8 % 2 ^ 64)) ≡ 8 = refl in
    omega (arith, both, zeros, eight)

-- the blocks of p, and then those of x
hash_after-more : (h p x : List ℕ) (n k : ℕ) → length p ≡ 64 * n → hash_after h (p ++ x) (n + k) ≡ hash_after (hash_after h p n) x k
unfolding hash_after
hash_after-more h p x n zero long = rw add-zero (hash_after-append h p x n (omega arith))
hash_after-more h p x n (suc k) long =
    let e : n + suc k ≡ (n + k) + 1 = omega arith in
    let place : (n + k) * 64 ≡ length p + k * 64 = omega arith in
    rw (e, hash_after_next h (p ++ x) (n + k), hash_after-more h p x n k long, place, drop-append-add p x (k * 64)) refl

-- where `last` blocks hold what is left of the message, and its padding
whole_own : (m out middle end : List ℕ) (count last : ℕ) → count ≡ length m / 64
    → take (length (drop (64 * count) m) + length (padding (length m))) out ≡ drop (64 * count) m ++ padding (length m)
    → 64 * last ≡ length m % 64 + (9 + (119 - length m % 64) % 64)
    → middle ≡ hash_after initial_hash_256 m count → end ≡ hash_after middle out last → digest_bytes end 8 ≡ sha256 m
unfolding sha256
whole_own m out middle end count last ec eo el em ee =
    let ini = initial_hash_256 in
    let front = take (64 * count) m in
    let rest = drop (64 * count) m in
    let pad = padding (length m) in
    let tail = rest ++ pad in
    let n = length rest + length pad in
    let lp = length-padding (length m) in
    let lr = length-drop (64 * count) m in
    let lt = length-append rest pad in
    let lf : length front ≡ 64 * count = length-take-le (64 * count) m (omega arith) in
    let lw = length-append m pad in
    let joined : out ≡ tail ++ drop n out = sym (take-append-drop n out) ∙ ap (λ (x : List ℕ). x ++ drop n out) eo in
    let reads : hash_after middle out last ≡ hash_after middle tail last =
    ap (λ (x : List ℕ). hash_after middle x last) joined ∙ hash_after-append middle tail (drop n out) last (omega (arith, lp, lr, lt)) in
    let parted : front ++ rest ≡ m = take-append-drop (64 * count) m in
    let before : middle ≡ hash_after ini front count =
    em ∙ ap (λ (x : List ℕ). hash_after ini x count) (sym parted) ∙ hash_after-append ini front rest count (omega arith) in
    let padded : front ++ tail ≡ padded_message m = sym (append_assoc front rest pad) ∙ ap (λ (x : List ℕ). x ++ pad) parted in
    let blocks : length (padded_message m) / 64 ≡ count + last = omega (arith, lw, lp) in
    let all : hash_after (hash_after ini front count) tail last ≡ final_hash ini m =
    sym (hash_after-more ini front tail count last lf) ∙ rw (padded, blocks) refl in
    ap (λ (x : List ℕ). digest_bytes x 8) (ee ∙ reads ∙ ap (λ (x : List ℕ). hash_after x tail last) before ∙ all)

-- the same, with the message's length, its last bytes and the initial hash value by other names
pub whole : (m rest out h middle end : List ℕ) (n count last : ℕ) → length m ≡ n → count ≡ n / 64
    → rest ≡ take (length m - 64 * count) (drop (64 * count) m) → take (length rest + length (padding n)) out ≡ rest ++ padding n
    → 64 * last ≡ n % 64 + (9 + (119 - n % 64) % 64)
    → h ≡ initial_hash_256 → middle ≡ hash_after h m count → end ≡ hash_after middle out last → digest_bytes end 8 ≡ sha256 m
whole m rest out h middle end n count last en ec er eo el eh em ee =
    let left : rest ≡ drop (64 * count) m = er ∙ take_all (length m - 64 * count) (drop (64 * count) m) (omega (arith, length-drop (64 * count) m)) in
    whole_own m out middle end count last (rw en ec) (rw (en, ← left) eo) (rw en el) (em ∙ ap (λ (x : List ℕ). hash_after x m count) eh) ee
