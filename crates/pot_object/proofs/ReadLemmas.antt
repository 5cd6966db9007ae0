-- What stands in an object is what was written.
use Rattle.std.proofs.Common.{◌≡◌, ◌≤◌, ◌+◌, ◌-◌, ◌++◌, ℕ, List, length, take, drop, replicate, refl, ap, sym, ◌∙◌, arith, length-append, length-drop}
use Rattle.std.proofs.Math.Seq.{take-add}
use Rattle.std.proofs.lemmas.List.{append_assoc, drop_at, drop-drop, length-take-le, take_at, take_rest, take-append-drop}
use Rattle.byteorder.specs.Endian.{big_bytes, big_number}
use Rattle.byteorder.specs.Numbers.{big_number-reads_back}
use Rattle.pot_bytes.specs.Lists.{AreBytes}
use Rattle.pot_bytes.proofs.ListLemmas.{AreBytes-drop}
use Rattle.pot_bytes.specs.Digests.{digest_bytes}
use Rattle.pot_object.specs.Sealing.{sealed}
use Rattle.pot_object.specs.Objects.{head_at, head_bytes, object_bytes, part_length, IsObjectHead, IsObject}
use Rattle.pot_object.specs.declared.object.ObjectHead.{ObjectHead}
use Rattle.pot_object.proofs.NumberLemmas.{big_bytes_4, big_bytes_8}
use Rattle.pot_object.proofs.ObjectLemmas.{length-head_bytes}
use Rattle.pot_object.proofs.SealLemmas.{rest-sealed, sealed_again}

-- joined fields, grouped from the right
pub spread : (a b c d e : List ℕ) → (((a ++ b) ++ c) ++ d) ++ e ≡ a ++ (b ++ (c ++ (d ++ e)))
spread a b c d e = simp append_assoc

-- where the second, the third and the fourth field stand
second : (a b : List ℕ) → length a ≡ 16 → drop 16 (a ++ b) ≡ b
second a b la = drop_at a b 16 la

third : (a b c : List ℕ) → length a ≡ 16 → length b ≡ 4 → drop 20 (a ++ (b ++ c)) ≡ c
third a b c la lb =
    ap (drop 20) (sym (append_assoc a b c)) ∙ drop_at (a ++ b) c 20 (omega (arith, length-append {A = ℕ} a b))

fourth : (a b c d : List ℕ) → length a ≡ 16 → length b ≡ 4 → length c ≡ 4 → drop 24 (a ++ (b ++ (c ++ d))) ≡ d
fourth a b c d la lb lc =
    ap (λ (z : List ℕ). drop 24 (a ++ z)) (sym (append_assoc b c d)) ∙ ap (drop 24) (sym (append_assoc a (b ++ c) d))
    ∙ drop_at (a ++ (b ++ c)) d 24 (omega (arith, length-append {A = ℕ} a (b ++ c), length-append {A = ℕ} b c))

unfoldable pub made : List ℕ → ℕ → ℕ → ℕ → ObjectHead
made id piece pieces n = record { file_id = id; piece = piece; pieces = pieces; length = n }

-- the head that was written is read again
pub head_at-head_bytes : (h : ObjectHead) (rest : List ℕ) → IsObjectHead h → head_at (head_bytes h ++ rest) ≡ h
unfolding head_bytes made
head_at-head_bytes h rest ok =
    let a = h.file_id in
    let b = big_bytes 4 h.piece in
    let c = big_bytes 4 h.pieces in
    let d = big_bytes 8 h.length in
    let whole = spread a b c d rest in
    let id : take 16 ((((a ++ b) ++ c) ++ d) ++ rest) ≡ a = ap (take 16) whole ∙ take_at a (b ++ (c ++ (d ++ rest))) 16 ok.id in
    let piece : big_number 4 (drop 16 ((((a ++ b) ++ c) ++ d) ++ rest)) ≡ h.piece =
    ap (λ (z : List ℕ). big_number 4 (drop 16 z)) whole ∙ ap (big_number 4) (second a (b ++ (c ++ (d ++ rest))) ok.id)
    ∙ big_number-reads_back 4 h.piece (c ++ (d ++ rest)) (omega (arith, ok.exists, ok.cut, ok.fits)) in
    let pieces : big_number 4 (drop 20 ((((a ++ b) ++ c) ++ d) ++ rest)) ≡ h.pieces =
    ap (λ (z : List ℕ). big_number 4 (drop 20 z)) whole ∙ ap (big_number 4) (third a b (c ++ (d ++ rest)) ok.id refl)
    ∙ big_number-reads_back 4 h.pieces (d ++ rest) (omega (arith, ok.cut, ok.fits)) in
    let count : big_number 8 (drop 24 ((((a ++ b) ++ c) ++ d) ++ rest)) ≡ h.length =
    ap (λ (z : List ℕ). big_number 8 (drop 24 z)) whole ∙ ap (big_number 8) (fourth a b c (d ++ rest) ok.id refl refl)
    ∙ big_number-reads_back 8 h.length rest (omega (arith, ok.fits)) in
    let all = (((a ++ b) ++ c) ++ d) ++ rest in
    ap (λ (z : List ℕ). made z (big_number 4 (drop 16 all)) (big_number 4 (drop 20 all)) (big_number 8 (drop 24 all))) id
    ∙ ap (λ (z : ℕ). made a z (big_number 4 (drop 20 all)) (big_number 8 (drop 24 all))) piece
    ∙ ap (λ (z : ℕ). made a h.piece z (big_number 8 (drop 24 all))) pieces
    ∙ ap (λ (z : ℕ). made a h.piece h.pieces z) count

-- four fields that stand one after another
joined : (a b c d xs : List ℕ) → a ≡ take 16 xs → b ≡ take 4 (drop 16 xs) → c ≡ take 4 (drop 20 xs) → d ≡ take 8 (drop 24 xs)
    → ((a ++ b) ++ c) ++ d ≡ take 32 xs
joined a b c d xs ea eb ec ed =
    let two : a ++ b ≡ take 20 xs = ap (λ (z : List ℕ). z ++ b) ea ∙ ap (λ (z : List ℕ). take 16 xs ++ z) eb ∙ sym (take-add 16 4 xs) in
    let three : (a ++ b) ++ c ≡ take 24 xs = ap (λ (z : List ℕ). z ++ c) two ∙ ap (λ (z : List ℕ). take 20 xs ++ z) ec ∙ sym (take-add 20 4 xs) in
    ap (λ (z : List ℕ). z ++ d) three ∙ ap (λ (z : List ℕ). take 24 xs ++ z) ed ∙ sym (take-add 24 8 xs)

-- the head that was read is written again
pub head_bytes-head_at : (bytes : List ℕ) → AreBytes bytes → 32 ≤ length bytes → head_bytes (head_at bytes) ≡ take 32 bytes
unfolding head_bytes
head_bytes-head_at bytes small long =
    let rest = λ (n : ℕ). length-drop {A = ℕ} n bytes in
    joined (take 16 bytes) (big_bytes 4 (big_number 4 (drop 16 bytes))) (big_bytes 4 (big_number 4 (drop 20 bytes))) (big_bytes 8 (big_number 8 (drop 24 bytes))) bytes
    refl
    (big_bytes_4 (drop 16 bytes) (AreBytes-drop 16 bytes small) (omega (arith, rest 16)))
    (big_bytes_4 (drop 20 bytes) (AreBytes-drop 20 bytes small) (omega (arith, rest 20)))
    (big_bytes_8 (drop 24 bytes) (AreBytes-drop 24 bytes small) (omega (arith, rest 24)))

-- an object has the head that stands in it
pub head_at-object : (h : ObjectHead) (bytes : List ℕ) → IsObject h bytes → head_at bytes ≡ h
unfolding object_bytes
head_at-object h bytes is =
    let part = take (part_length h) (drop 64 bytes) in
    let rest = part ++ replicate (864 - length part) 0 in
    let digest = digest_bytes (head_bytes h ++ rest) in
    ap head_at (is.spelled ∙ append_assoc (head_bytes h) digest rest) ∙ head_at-head_bytes h (digest ++ rest) is.head

-- an object is sealed
pub sealed-object : (h : ObjectHead) (bytes : List ℕ) → IsObject h bytes → bytes ≡ sealed (take 32 bytes) (drop 64 bytes)
unfolding object_bytes
sealed-object h bytes is =
    let part = take (part_length h) (drop 64 bytes) in
    sealed_again bytes (head_bytes h) (part ++ replicate (864 - length part) 0) (length-head_bytes h is.head.id) is.spelled

-- behind the part stand zeros
pub zeros-object : (h : ObjectHead) (bytes : List ℕ) → length bytes ≡ 928 → IsObject h bytes
    → drop (part_length h) (drop 64 bytes) ≡ replicate (864 - part_length h) 0
unfolding object_bytes
zeros-object h bytes long is =
    let rest = drop 64 bytes in
    let n = part_length h in
    let part = take n rest in
    let whole : length part ≡ n = length-take-le n rest (omega (arith, length-drop {A = ℕ} 64 bytes)) in
    let back : rest ≡ part ++ replicate (864 - length part) 0 =
    ap (drop 64) is.spelled ∙ rest-sealed (head_bytes h) (part ++ replicate (864 - length part) 0) (length-head_bytes h is.head.id) in
    ap (drop n) back ∙ drop_at part (replicate (864 - length part) 0) n whole ∙ ap (λ (k : ℕ). replicate (864 - k) 0) whole

-- bytes of these parts are an object
pub IsObject-from_parts : (h : ObjectHead) (bytes : List ℕ) → length bytes ≡ 928 → IsObjectHead h → head_bytes h ≡ take 32 bytes
    → bytes ≡ sealed (take 32 bytes) (drop 64 bytes) → drop (part_length h) (drop 64 bytes) ≡ replicate (864 - part_length h) 0
    → IsObject h bytes
unfolding object_bytes
IsObject-from_parts h bytes long ok front seal zeros =
    let rest = drop 64 bytes in
    let n = part_length h in
    let part = take n rest in
    let whole : length part ≡ n = length-take-le n rest (omega (arith, length-drop {A = ℕ} 64 bytes)) in
    let back : rest ≡ part ++ replicate (864 - length part) 0 =
    sym (take-append-drop n rest) ∙ ap (λ (z : List ℕ). part ++ z) (zeros ∙ ap (λ (k : ℕ). replicate (864 - k) 0) (sym whole)) in
    record {
      head = ok;
      spelled = seal ∙ ap (λ (z : List ℕ). sealed z rest) (sym front) ∙ ap (λ (z : List ℕ). sealed (head_bytes h) z) back;
    }

-- the bytes of an object behind its part
tail-part : (bytes : List ℕ) (n : ℕ) → length bytes ≡ 928 → take (928 - (64 + n)) (drop (64 + n) bytes) ≡ drop n (drop 64 bytes)
tail-part bytes n long =
    ap (λ (k : ℕ). take (k - (64 + n)) (drop (64 + n) bytes)) (sym long) ∙ take_rest bytes (64 + n) ∙ sym (drop-drop n 64 bytes)

length-tail : (bytes : List ℕ) (n : ℕ) → length bytes ≡ 928 → length (drop n (drop 64 bytes)) ≡ 864 - n
length-tail bytes n long = omega (arith, length-drop {A = ℕ} n (drop 64 bytes), length-drop {A = ℕ} 64 bytes)

-- they are zeros exactly where as many zeros stand there
pub zeros_there : (bytes : List ℕ) (n m : ℕ) → length bytes ≡ 928 → m ≡ n
    → take (928 - (64 + m)) (drop (64 + m) bytes) ≡ replicate (length (take (928 - (64 + m)) (drop (64 + m) bytes))) 0
    → drop n (drop 64 bytes) ≡ replicate (864 - n) 0
zeros_there bytes n m long same e =
    let tail = tail-part bytes m long in
    let zeros : drop m (drop 64 bytes) ≡ replicate (864 - m) 0 =
    sym tail ∙ e ∙ ap (λ (z : List ℕ). replicate (length z) 0) tail ∙ ap (λ (k : ℕ). replicate k 0) (length-tail bytes m long) in
    rw same at zeros

pub zeros_as_read : (bytes : List ℕ) (n m : ℕ) → length bytes ≡ 928 → m ≡ n
    → drop n (drop 64 bytes) ≡ replicate (864 - n) 0
    → take (928 - (64 + m)) (drop (64 + m) bytes) ≡ replicate (length (take (928 - (64 + m)) (drop (64 + m) bytes))) 0
zeros_as_read bytes n m long same e =
    let tail = tail-part bytes m long in
    let zeros : drop m (drop 64 bytes) ≡ replicate (864 - m) 0 = rw same e in
    tail ∙ zeros ∙ ap (λ (k : ℕ). replicate k 0) (sym (length-tail bytes m long)) ∙ ap (λ (z : List ℕ). replicate (length z) 0) (sym tail)
