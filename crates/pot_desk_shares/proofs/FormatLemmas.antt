-- What stands in a share is what was written.
use Rattle.std.proofs.Common.{◌≡◌, ◌≤◌, ◌+◌, ◌-◌, ◌++◌, ◌∷◌, [], ℕ, List, length, take, drop, get_or, refl, ap, ap₂, sym, ◌∙◌, arith, length-append, length-drop}
use Rattle.std.proofs.Math.Seq.{take-add}
use Rattle.std.proofs.lemmas.List.{append_assoc, drop_at, drop_more, take_at, take-append-drop}
use Rattle.byteorder.specs.Endian.{big_bytes, big_number}
use Rattle.byteorder.specs.Numbers.{big_number-reads_back}
use Rattle.pot_bytes.specs.Digests.{digest_bytes}
use Rattle.pot_bytes.specs.Lists.{AreBytes}
use Rattle.pot_bytes.proofs.DigestLemmas.{length-digest_bytes}
use Rattle.pot_bytes.proofs.ListLemmas.{AreBytes-drop}
use Rattle.pot_object.proofs.NumberLemmas.{big_bytes_8}
use Rattle.pot_desk_shares.specs.Shares.{body_of, head_at, head_bytes, magic, share_bytes, with_digest, HasShareFrame, IsShareHead, IsShare}
use Rattle.pot_desk_shares.specs.declared.share.ShareHead.{ShareHead}

unfoldable pub made : ℕ → ℕ → ℕ → ℕ → ℕ → ℕ → ShareHead
made need count point generation set long =
    record { need = need; count = count; point = point; generation = generation; set = set; length = long }

-- the head that was written is read again
pub head_at-head_bytes : (h : ShareHead) (rest : List ℕ) → IsShareHead h → head_at (head_bytes h ++ rest) ≡ h
unfolding head_bytes made
head_at-head_bytes h rest ok =
    let generation : big_number 8 (big_bytes 8 h.generation ++ (big_bytes 8 h.set ++ (big_bytes 8 h.length ++ rest))) ≡ h.generation =
    big_number-reads_back 8 h.generation (big_bytes 8 h.set ++ (big_bytes 8 h.length ++ rest)) ok.generation in
    let set : big_number 8 (big_bytes 8 h.set ++ (big_bytes 8 h.length ++ rest)) ≡ h.set =
    big_number-reads_back 8 h.set (big_bytes 8 h.length ++ rest) ok.set in
    let long : big_number 8 (big_bytes 8 h.length ++ rest) ≡ h.length =
    big_number-reads_back 8 h.length rest (omega (arith, ok.fits)) in
    let s = big_number 8 (big_bytes 8 h.set ++ (big_bytes 8 h.length ++ rest)) in
    let l = big_number 8 (big_bytes 8 h.length ++ rest) in
    ap (λ (z : ℕ). made h.need h.count h.point z s l) generation
    ∙ ap (λ (z : ℕ). made h.need h.count h.point h.generation z l) set
    ∙ ap (λ (z : ℕ). made h.need h.count h.point h.generation h.set z) long

pub length-head_bytes : (h : ShareHead) → length (head_bytes h) ≡ 32
unfolding head_bytes
length-head_bytes h = refl

pub magic-share_bytes : (h : ShareHead) (body : List ℕ) → take 5 (share_bytes h body) ≡ magic
unfolding head_bytes share_bytes
magic-share_bytes h body = refl

-- three bytes that stand one after another
three_bytes : (xs : List ℕ) → 8 ≤ length xs → get_or xs 5 0 ∷ get_or xs 6 0 ∷ get_or xs 7 0 ∷ [] ≡ take 3 (drop 5 xs)
three_bytes xs long =
    let b : drop 5 xs ≡ get_or xs 5 0 ∷ drop 6 xs = drop_more xs 5 0 (omega arith) in
    let c : drop 6 xs ≡ get_or xs 6 0 ∷ drop 7 xs = drop_more xs 6 0 (omega arith) in
    let d : drop 7 xs ≡ get_or xs 7 0 ∷ drop 8 xs = drop_more xs 7 0 (omega arith) in
    sym (ap (take 3) (b ∙ ap (λ (z : List ℕ). get_or xs 5 0 ∷ z) (c ∙ ap (λ (z : List ℕ). get_or xs 6 0 ∷ z) d)))

-- five fields that stand one after another
joined : (a b c d e xs : List ℕ) → a ≡ take 5 xs → b ≡ take 3 (drop 5 xs) → c ≡ take 8 (drop 8 xs)
    → d ≡ take 8 (drop 16 xs) → e ≡ take 8 (drop 24 xs) → (((a ++ b) ++ c) ++ d) ++ e ≡ take 32 xs
joined a b c d e xs ea eb ec ed ee =
    let two : a ++ b ≡ take 8 xs = ap₂ (λ (y z : List ℕ). y ++ z) ea eb ∙ sym (take-add 5 3 xs) in
    let three : (a ++ b) ++ c ≡ take 16 xs = ap₂ (λ (y z : List ℕ). y ++ z) two ec ∙ sym (take-add 8 8 xs) in
    let four : ((a ++ b) ++ c) ++ d ≡ take 24 xs = ap₂ (λ (y z : List ℕ). y ++ z) three ed ∙ sym (take-add 16 8 xs) in
    ap₂ (λ (y z : List ℕ). y ++ z) four ee ∙ sym (take-add 24 8 xs)

-- the head that was read is written again
pub head_bytes-head_at : (bytes : List ℕ) → AreBytes bytes → 32 ≤ length bytes → take 5 bytes ≡ magic
    → head_bytes (head_at bytes) ≡ take 32 bytes
unfolding head_bytes
head_bytes-head_at bytes small long framed =
    let rest = λ (n : ℕ). length-drop {A = ℕ} n bytes in
    joined magic (get_or bytes 5 0 ∷ get_or bytes 6 0 ∷ get_or bytes 7 0 ∷ []) (big_bytes 8 (big_number 8 (drop 8 bytes)))
    (big_bytes 8 (big_number 8 (drop 16 bytes))) (big_bytes 8 (big_number 8 (drop 24 bytes))) bytes
    (sym framed)
    (three_bytes bytes (omega arith))
    (big_bytes_8 (drop 8 bytes) (AreBytes-drop 8 bytes small) (omega (arith, rest 8)))
    (big_bytes_8 (drop 16 bytes) (AreBytes-drop 16 bytes small) (omega (arith, rest 16)))
    (big_bytes_8 (drop 24 bytes) (AreBytes-drop 24 bytes small) (omega (arith, rest 24)))

-- a share is 64 bytes longer than its values
pub length-share_bytes : (h : ShareHead) (body : List ℕ) → length (share_bytes h body) ≡ length body + 64
unfolding share_bytes
length-share_bytes h body =
    let front = head_bytes h ++ body in
    omega (arith, length-append {A = ℕ} front (digest_bytes front), length-append {A = ℕ} (head_bytes h) body, length-head_bytes h, length-digest_bytes front)

-- a share has the head and the values that stand in it
pub head_at-share : (h : ShareHead) (body bytes : List ℕ) → IsShare h body bytes → head_at bytes ≡ h
unfolding share_bytes
head_at-share h body bytes is =
    let digest = digest_bytes (head_bytes h ++ body) in
    ap head_at (is.spelled ∙ append_assoc (head_bytes h) body digest) ∙ head_at-head_bytes h (body ++ digest) is.head

pub body_of-share : (h : ShareHead) (body bytes : List ℕ) → IsShare h body bytes → body_of bytes ≡ body
unfolding share_bytes
body_of-share h body bytes is =
    let digest = digest_bytes (head_bytes h ++ body) in
    let back : drop 32 bytes ≡ body ++ digest =
    ap (drop 32) (is.spelled ∙ append_assoc (head_bytes h) body digest) ∙ drop_at (head_bytes h) (body ++ digest) 32 (length-head_bytes h) in
    let long : length bytes ≡ length body + 64 = ap length is.spelled ∙ length-share_bytes h body in
    ap (take (length bytes - 64)) back ∙ take_at body digest (length bytes - 64) (omega arith)

pub one_share : (h g : ShareHead) (body other bytes : List ℕ) → IsShare h body bytes → IsShare g other bytes → (h ≡ g) × (body ≡ other)
one_share h g body other bytes a b =
    (sym (head_at-share h body bytes a) ∙ head_at-share g other bytes b, sym (body_of-share h body bytes a) ∙ body_of-share g other bytes b)

-- what stands before the digest
front_of : (bytes : List ℕ) → 64 ≤ length bytes → take (length bytes - 32) bytes ≡ take 32 bytes ++ body_of bytes
front_of bytes long =
    let n : length bytes - 32 ≡ 32 + (length bytes - 64) = omega arith in
    ap (λ (z : ℕ). take z bytes) n ∙ take-add 32 (length bytes - 64) bytes

pub framed-share : (h : ShareHead) (body bytes : List ℕ) → IsShare h body bytes → HasShareFrame bytes
unfolding share_bytes
framed-share h body bytes is =
    let front = head_bytes h ++ body in
    let digest = digest_bytes front in
    let long : length bytes ≡ length body + 64 = ap length is.spelled ∙ length-share_bytes h body in
    let n : length front ≡ length bytes - 32 = omega (arith, length-append {A = ℕ} (head_bytes h) body, length-head_bytes h) in (
      ap (take 5) is.spelled ∙ magic-share_bytes h body,
      ap (drop (length bytes - 32)) is.spelled ∙ drop_at front digest (length bytes - 32) n
          ∙ ap digest_bytes (sym (take_at front digest (length bytes - 32) n) ∙ ap (take (length bytes - 32)) (sym is.spelled)),
    )

-- bytes of these parts are a share
pub IsShare-from_parts : (bytes : List ℕ) → AreBytes bytes → 64 ≤ length bytes → IsShareHead (head_at bytes)
    → length (body_of bytes) ≡ (head_at bytes).length + 32 → HasShareFrame bytes → IsShare (head_at bytes) (body_of bytes) bytes
unfolding share_bytes
IsShare-from_parts bytes small long ok whole framed =
    let n = length bytes - 32 in
    let front : take n bytes ≡ head_bytes (head_at bytes) ++ body_of bytes =
    front_of bytes long ∙ ap (λ (z : List ℕ). z ++ body_of bytes) (sym (head_bytes-head_at bytes small (omega arith) framed.0)) in
    record {
      head = ok;
      whole = whole;
      spelled = sym (take-append-drop n bytes) ∙ ap (λ (z : List ℕ). take n bytes ++ z) framed.1
          ∙ ap with_digest front;
    }
