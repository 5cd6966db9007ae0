-- What stands in a content is what was written.
use Rattle.std.proofs.Common.{◌≡◌, ◌≤◌, ◌++◌, ◌∷◌, [], ℕ, List, length, take, drop, replicate, get_or, ap, sym, ◌∙◌, arith, length-append}
use Rattle.std.proofs.Math.Seq.{take-add}
use Rattle.std.proofs.lemmas.List.{append_assoc, drop_at, drop_more, get_or_at, get_or-append_right, take_at}
use Rattle.pot_bytes.specs.Digests.{digest_bytes}
use Rattle.pot_object.specs.Sealing.{sealed}
use Rattle.pot_object.specs.Contents.{content_bytes, fragment_head_at, fragment_head_bytes, IsContent, IsFragmentHead}
use Rattle.pot_object.specs.declared.content.FragmentHead.{FragmentHead}
use Rattle.pot_object.proofs.SealLemmas.{length-sealed, rest-sealed, sealed_again}

-- a head is 32 bytes
pub length-fragment_head_bytes : (h : FragmentHead) → length h.object_id ≡ 16 → length (fragment_head_bytes h) ≡ 32
unfolding fragment_head_bytes
length-fragment_head_bytes h whole =
    let zeros : List ℕ = replicate 14 0 in
    omega (arith, whole, length-append {A = ℕ} h.object_id (h.number ∷ h.count ∷ zeros))

made : List ℕ → ℕ → ℕ → FragmentHead
made id number count = record { object_id = id; number = number; count = count }

-- the head that was written is read again
pub fragment_head_at-bytes : (h : FragmentHead) (rest : List ℕ) → length h.object_id ≡ 16
    → fragment_head_at (fragment_head_bytes h ++ rest) ≡ h
unfolding fragment_head_bytes made
fragment_head_at-bytes h rest whole =
    let a = h.object_id in
    let zeros : List ℕ = replicate 14 0 in
    let fields = a ++ h.number ∷ h.count ∷ zeros in
    let all = fields ++ rest in
    let spread : all ≡ a ++ h.number ∷ h.count ∷ (zeros ++ rest) = append_assoc a (h.number ∷ h.count ∷ zeros) rest in
    let id : take 16 all ≡ a = ap (take 16) spread ∙ take_at a (h.number ∷ h.count ∷ (zeros ++ rest)) 16 whole in
    let number : get_or all 16 0 ≡ h.number =
    ap (λ (z : List ℕ). get_or z 16 0) spread ∙ get_or_at a h.number (h.count ∷ (zeros ++ rest)) 0 16 whole in
    let count : get_or all 17 0 ≡ h.count =
    ap (λ (z : List ℕ). get_or z 17 0) spread ∙ get_or-append_right a (h.number ∷ h.count ∷ (zeros ++ rest)) 16 17 0 whole (omega arith) in
    ap (λ (z : List ℕ). made z (get_or all 16 0) (get_or all 17 0)) id
    ∙ ap (λ (z : ℕ). made a z (get_or all 17 0)) number
    ∙ ap (λ (z : ℕ). made a h.number z) count

-- the head that was read is written again
pub fragment_head_bytes-at : (bytes : List ℕ) → 32 ≤ length bytes → take 14 (drop 18 bytes) ≡ replicate 14 0
    → fragment_head_bytes (fragment_head_at bytes) ≡ take 32 bytes
unfolding fragment_head_bytes
fragment_head_bytes-at bytes long zeros =
    let x = get_or bytes 16 0 in
    let y = get_or bytes 17 0 in
    let here : drop 16 bytes ≡ x ∷ drop 17 bytes = drop_more bytes 16 0 (omega arith) in
    let next : drop 17 bytes ≡ y ∷ drop 18 bytes = drop_more bytes 17 0 (omega arith) in
    let all : take 16 (drop 16 bytes) ≡ x ∷ y ∷ replicate 14 0 =
    ap (take 16) (here ∙ ap (λ (z : List ℕ). x ∷ z) next) ∙ ap (λ (z : List ℕ). x ∷ y ∷ z) zeros in
    ap (λ (z : List ℕ). take 16 bytes ++ z) (sym all) ∙ sym (take-add 16 16 bytes)

-- the zeros of a head
zeros-head : (h : FragmentHead) (rest : List ℕ) → length h.object_id ≡ 16 → take 14 (drop 18 (fragment_head_bytes h ++ rest)) ≡ replicate 14 0
unfolding fragment_head_bytes
zeros-head h rest whole =
    let a = h.object_id in
    let two = h.number ∷ h.count ∷ [] in
    let zeros : List ℕ = replicate 14 0 in
    let spread : (a ++ h.number ∷ h.count ∷ zeros) ++ rest ≡ (a ++ two) ++ (zeros ++ rest) =
    append_assoc a (h.number ∷ h.count ∷ zeros) rest ∙ sym (append_assoc a two (zeros ++ rest)) in
    ap (λ (z : List ℕ). take 14 (drop 18 z)) spread
    ∙ ap (take 14) (drop_at (a ++ two) (zeros ++ rest) 18 (omega (arith, length-append {A = ℕ} a two)))

-- a content begins with its head
head_first : (h : FragmentHead) (bytes : List ℕ) → IsContent h bytes
    → bytes ≡ fragment_head_bytes h ++ (digest_bytes (fragment_head_bytes h ++ drop 64 bytes) ++ drop 64 bytes)
unfolding content_bytes
head_first h bytes is =
    is.spelled ∙ append_assoc (fragment_head_bytes h) (digest_bytes (fragment_head_bytes h ++ drop 64 bytes)) (drop 64 bytes)

-- a content has the head that stands in it
pub fragment_head_at-content : (h : FragmentHead) (bytes : List ℕ) → IsContent h bytes → fragment_head_at bytes ≡ h
fragment_head_at-content h bytes is =
    let rest = drop 64 bytes in
    ap fragment_head_at (head_first h bytes is) ∙ fragment_head_at-bytes h (digest_bytes (fragment_head_bytes h ++ rest) ++ rest) is.head.id

-- behind the fields of a content's head stand zeros
pub zeros-content : (h : FragmentHead) (bytes : List ℕ) → IsContent h bytes → take 14 (drop 18 bytes) ≡ replicate 14 0
zeros-content h bytes is =
    let rest = drop 64 bytes in
    ap (λ (z : List ℕ). take 14 (drop 18 z)) (head_first h bytes is) ∙ zeros-head h (digest_bytes (fragment_head_bytes h ++ rest) ++ rest) is.head.id

-- a content is sealed
pub sealed-content : (h : FragmentHead) (bytes : List ℕ) → IsContent h bytes → bytes ≡ sealed (take 32 bytes) (drop 64 bytes)
unfolding content_bytes
sealed-content h bytes is =
    sealed_again bytes (fragment_head_bytes h) (drop 64 bytes) (length-fragment_head_bytes h is.head.id) is.spelled

-- bytes of these parts are a content
pub IsContent-from_parts : (h : FragmentHead) (bytes : List ℕ) → length bytes ≡ 992 → IsFragmentHead h
    → fragment_head_bytes h ≡ take 32 bytes → bytes ≡ sealed (take 32 bytes) (drop 64 bytes) → IsContent h bytes
unfolding content_bytes
IsContent-from_parts h bytes long ok front seal = record {
  long = long;
  head = ok;
  spelled = seal ∙ ap (λ (z : List ℕ). sealed z (drop 64 bytes)) (sym front);
}

-- a content is 992 bytes
pub length-content : (h : FragmentHead) (part : List ℕ) → length h.object_id ≡ 16 → length part ≡ 928
    → length (content_bytes h part) ≡ 992
unfolding content_bytes
length-content h part whole long =
    omega (arith, length-sealed (fragment_head_bytes h) part, length-fragment_head_bytes h whole)

-- the fragment stands in a content from byte 64 on
pub part-content : (h : FragmentHead) (part : List ℕ) → length h.object_id ≡ 16 → drop 64 (content_bytes h part) ≡ part
unfolding content_bytes
part-content h part whole = rest-sealed (fragment_head_bytes h) part (length-fragment_head_bytes h whole)

-- what is written is a content
pub IsContent-written : (h : FragmentHead) (part : List ℕ) → IsFragmentHead h → length part ≡ 928 → IsContent h (content_bytes h part)
IsContent-written h part ok long = record {
  long = length-content h part ok.id long;
  head = ok;
  spelled = ap (content_bytes h) (sym (part-content h part ok.id));
}

pub one_head : (h g : FragmentHead) (bytes : List ℕ) → IsContent h bytes → IsContent g bytes → h ≡ g
one_head h g bytes a b = sym (fragment_head_at-content h bytes a) ∙ fragment_head_at-content g bytes b

pub one_spelling : (h : FragmentHead) (a b : List ℕ) → IsContent h a → IsContent h b → drop 64 a ≡ drop 64 b → a ≡ b
one_spelling h a b x y same = x.spelled ∙ ap (content_bytes h) same ∙ sym y.spelled
