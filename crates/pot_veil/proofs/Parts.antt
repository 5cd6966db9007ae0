-- Bytes in which others stand from one place on.
use Rattle.std.proofs.Common.{◌≡◌, ◌<◌, ◌≤◌, ◌⊎◌, inl, inr, ℕ, ◌+◌, ◌-◌, List, ◌++◌, length, take, drop, get_or, refl, sym, ap, ◌∙◌, subst, arith, length-append, length-drop}
use Rattle.std.proofs.lemmas.List.{length-take-le, get_or-take, get_or-drop, get_or-append_right, get_or_append_left, ext_get_or}
use Rattle.pot_bytes.specs.Lists.{AreBytes}
use Rattle.pot_bytes.proofs.ListLemmas.{AreBytes-append, AreBytes-drop, AreBytes-take}
use Rattle.pot_veil.specs.Explained.{with_part}

pub length-with_part : (at : ℕ) (new bytes : List ℕ) → at + length new ≤ length bytes → length (with_part at new bytes) ≡ length bytes
length-with_part at new bytes le =
    omega (arith, length-append (take at bytes) (new ++ drop (at + length new) bytes), length-append new (drop (at + length new) bytes), length-take-le at bytes (omega arith), length-drop (at + length new) bytes)

pub with_part-low : (at : ℕ) (new bytes : List ℕ) (i : ℕ) → at + length new ≤ length bytes → i < at → get_or (with_part at new bytes) i 0 ≡ get_or bytes i 0
with_part-low at new bytes i le lt =
    get_or_append_left (take at bytes) (new ++ drop (at + length new) bytes) 0 i (omega (arith, length-take-le at bytes (omega arith))) ∙ get_or-take at bytes i 0 lt

pub with_part-in : (at : ℕ) (new bytes : List ℕ) (i : ℕ) → at + length new ≤ length bytes → at ≤ i → i < at + length new → get_or (with_part at new bytes) i 0 ≡ get_or new (i - at) 0
with_part-in at new bytes i le ge lt =
    get_or-append_right (take at bytes) (new ++ drop (at + length new) bytes) at i 0 (length-take-le at bytes (omega arith)) ge
    ∙ get_or_append_left new (drop (at + length new) bytes) 0 (i - at) (omega arith)

pub with_part-high : (at : ℕ) (new bytes : List ℕ) (i : ℕ) → at + length new ≤ length bytes → at + length new ≤ i → get_or (with_part at new bytes) i 0 ≡ get_or bytes i 0
with_part-high at new bytes i le ge =
    get_or-append_right (take at bytes) (new ++ drop (at + length new) bytes) at i 0 (length-take-le at bytes (omega arith)) (omega arith)
    ∙ get_or-append_right new (drop (at + length new) bytes) (length new) (i - at) 0 refl (omega arith)
    ∙ get_or-drop (at + length new) bytes (i - at - length new) 0
    ∙ ap (λ k. get_or bytes k 0) (let e : at + length new + (i - at - length new) ≡ i = omega arith in e)

-- elsewhere the bytes are as they were
pub with_part-out : (at : ℕ) (new bytes : List ℕ) (i : ℕ) → at + length new ≤ length bytes → (i < at) ⊎ (at + length new ≤ i) → get_or (with_part at new bytes) i 0 ≡ get_or bytes i 0
with_part-out at new bytes i le (inl lt) = with_part-low at new bytes i le lt
with_part-out at new bytes i le (inr ge) = with_part-high at new bytes i le ge

pub drop-past : (p at : ℕ) (new bytes : List ℕ) → at + length new ≤ length bytes → at + length new ≤ p → drop p (with_part at new bytes) ≡ drop p bytes
drop-past p at new bytes le ge = ext_get_or 0 (drop p (with_part at new bytes)) (drop p bytes)
    (omega (arith, length-drop p (with_part at new bytes), length-drop p bytes, length-with_part at new bytes le))
    (λ i l. get_or-drop p (with_part at new bytes) i 0 ∙ with_part-high at new bytes (p + i) le (omega arith) ∙ sym (get_or-drop p bytes i 0))

pub take-before : (n at : ℕ) (new bytes : List ℕ) → at + length new ≤ length bytes → n ≤ at → take n (with_part at new bytes) ≡ take n bytes
take-before n at new bytes le ge =
    let long : length (with_part at new bytes) ≡ length bytes = length-with_part at new bytes le in
    let left : length (take n (with_part at new bytes)) ≡ n = length-take-le n (with_part at new bytes) (omega arith) in
    ext_get_or 0 (take n (with_part at new bytes)) (take n bytes)
    (left ∙ sym (length-take-le n bytes (omega arith)))
    (λ i l. get_or-take n (with_part at new bytes) i 0 (omega arith) ∙ with_part-low at new bytes i le (omega arith) ∙ sym (get_or-take n bytes i 0 (omega arith)))

-- a part apart from it
pub part-same : (n p at : ℕ) (new bytes : List ℕ) → at + length new ≤ length bytes → p + n ≤ length bytes → (p + n ≤ at) ⊎ (at + length new ≤ p)
    → take n (drop p (with_part at new bytes)) ≡ take n (drop p bytes)
part-same n p at new bytes le fits far =
    let long : length (with_part at new bytes) ≡ length bytes = length-with_part at new bytes le in
    let left : length (take n (drop p (with_part at new bytes))) ≡ n = length-take-le n (drop p (with_part at new bytes)) (omega (arith, length-drop p (with_part at new bytes))) in
    ext_get_or 0 (take n (drop p (with_part at new bytes))) (take n (drop p bytes))
    (left ∙ sym (length-take-le n (drop p bytes) (omega (arith, length-drop p bytes))))
    (λ i l. get_or-take n (drop p (with_part at new bytes)) i 0 (omega arith) ∙ get_or-drop p (with_part at new bytes) i 0
    ∙ with_part-out at new bytes (p + i) le (out i (omega arith) far)
    ∙ sym (get_or-take n (drop p bytes) i 0 (omega arith) ∙ get_or-drop p bytes i 0))
  where
    out : (i : ℕ) → i < n → (p + n ≤ at) ⊎ (at + length new ≤ p) → (p + i < at) ⊎ (at + length new ≤ p + i)
    out i l (inl x) = inl (omega arith)
    out i l (inr x) = inr (omega arith)

-- the part itself
pub part-in : (at n : ℕ) (new bytes : List ℕ) → at + length new ≤ length bytes → n ≡ length new → take n (drop at (with_part at new bytes)) ≡ new
part-in at n new bytes le e =
    let long : length (with_part at new bytes) ≡ length bytes = length-with_part at new bytes le in
    let left : length (take n (drop at (with_part at new bytes))) ≡ n = length-take-le n (drop at (with_part at new bytes)) (omega (arith, length-drop at (with_part at new bytes))) in
    ext_get_or 0 (take n (drop at (with_part at new bytes))) new (left ∙ e)
    (λ i l. get_or-take n (drop at (with_part at new bytes)) i 0 (omega arith) ∙ get_or-drop at (with_part at new bytes) i 0
    ∙ with_part-in at new bytes (at + i) le (omega arith) (omega arith) ∙ ap (λ k. get_or new k 0) (let z : at + i - at ≡ i = omega arith in z))

-- a part that has it inside
pub part-inside : (n p a at : ℕ) (new bytes : List ℕ) → at ≡ p + a → a + length new ≤ n → p + n ≤ length bytes → take n (drop p (with_part at new bytes)) ≡ with_part a new (take n (drop p bytes))
part-inside n p a at new bytes e inside fits =
    let le : at + length new ≤ length bytes = omega arith in
    let long : length (with_part at new bytes) ≡ length bytes = length-with_part at new bytes le in
    let left : length (take n (drop p (with_part at new bytes))) ≡ n = length-take-le n (drop p (with_part at new bytes)) (omega (arith, length-drop p (with_part at new bytes))) in
    let right : length (take n (drop p bytes)) ≡ n = length-take-le n (drop p bytes) (omega (arith, length-drop p bytes)) in
    let le' : a + length new ≤ length (take n (drop p bytes)) = omega arith in
    ext_get_or 0 (take n (drop p (with_part at new bytes))) (with_part a new (take n (drop p bytes))) (left ∙ sym (length-with_part a new (take n (drop p bytes)) le' ∙ right))
    (λ i l. get_or-take n (drop p (with_part at new bytes)) i 0 (omega arith) ∙ get_or-drop p (with_part at new bytes) i 0 ∙ place i (omega arith) le le' (where_is i))
  where
    where_is : (i : ℕ) → (i < a) ⊎ (((a ≤ i) × (i < a + length new)) ⊎ (a + length new ≤ i))
    where_is i = grind arith

    old : (i : ℕ) → i < n → get_or bytes (p + i) 0 ≡ get_or (take n (drop p bytes)) i 0
    old i l = sym (get_or-take n (drop p bytes) i 0 l ∙ get_or-drop p bytes i 0)

    place : (i : ℕ) → i < n → at + length new ≤ length bytes → a + length new ≤ length (take n (drop p bytes)) → (i < a) ⊎ (((a ≤ i) × (i < a + length new)) ⊎ (a + length new ≤ i))
        → get_or (with_part at new bytes) (p + i) 0 ≡ get_or (with_part a new (take n (drop p bytes))) i 0
    place i l le le' (inl x) = with_part-low at new bytes (p + i) le (omega arith) ∙ old i l ∙ sym (with_part-low a new (take n (drop p bytes)) i le' x)
    place i l le le' (inr (inl x)) = with_part-in at new bytes (p + i) le (let y : a ≤ i = x.0 in omega arith) (let y : i < a + length new = x.1 in omega arith)
        ∙ ap (λ k. get_or new k 0) (let z : p + i - at ≡ i - a = omega arith in z) ∙ sym (with_part-in a new (take n (drop p bytes)) i le' x.0 x.1)
    place i l le le' (inr (inr x)) = with_part-high at new bytes (p + i) le (omega arith) ∙ old i l ∙ sym (with_part-high a new (take n (drop p bytes)) i le' x)

-- two parts that are apart are changed, and changed back
pub put_back : (a b : ℕ) (x y bytes x0 y0 : List ℕ) → a + length x ≤ b → b + length y ≤ length bytes → x0 ≡ take (length x) (drop a bytes) → y0 ≡ take (length y) (drop b bytes)
    → with_part b y0 (with_part a x0 (with_part b y (with_part a x bytes))) ≡ bytes
put_back a b x y bytes x0 y0 ab fits ex ey =
    let lx : length x0 ≡ length x = ap length ex ∙ length-take-le (length x) (drop a bytes) (omega (arith, length-drop a bytes)) in
    let ly : length y0 ≡ length y = ap length ey ∙ length-take-le (length y) (drop b bytes) (omega (arith, length-drop b bytes)) in
    let one : List ℕ = with_part a x bytes in
    let two : List ℕ = with_part b y one in
    let three : List ℕ = with_part a x0 two in
    let l1 : length one ≡ length bytes = length-with_part a x bytes (omega arith) in
    let l2 : length two ≡ length bytes = length-with_part b y one (omega arith) ∙ l1 in
    let l3 : length three ≡ length bytes = length-with_part a x0 two (omega arith) ∙ l2 in
    let l4 : length (with_part b y0 three) ≡ length bytes = length-with_part b y0 three (omega arith) ∙ l3 in
    ext_get_or 0 (with_part b y0 three) bytes l4 (λ i l. elim (where_is i b (length y)) [
      | inl in_b ↦ with_part-in b y0 three i (omega arith) in_b.0 (let z : i < b + length y = in_b.1 in omega arith)
          ∙ ap (λ z. get_or z (i - b) 0) ey ∙ get_or-take (length y) (drop b bytes) (i - b) 0 (let z : i < b + length y = in_b.1 in let w : b ≤ i = in_b.0 in omega arith)
          ∙ get_or-drop b bytes (i - b) 0 ∙ ap (λ k. get_or bytes k 0) (let w : b ≤ i = in_b.0 in let z : b + (i - b) ≡ i = omega arith in z)
      | inr out_b ↦ with_part-out b y0 three i (omega arith) (subst (λ n. (i < b) ⊎ (b + n ≤ i)) (sym ly) out_b) ∙ elim (where_is i a (length x)) [
        | inl in_a ↦ with_part-in a x0 two i (omega arith) in_a.0 (let z : i < a + length x = in_a.1 in omega arith)
            ∙ ap (λ z. get_or z (i - a) 0) ex ∙ get_or-take (length x) (drop a bytes) (i - a) 0 (let z : i < a + length x = in_a.1 in let w : a ≤ i = in_a.0 in omega arith)
            ∙ get_or-drop a bytes (i - a) 0 ∙ ap (λ k. get_or bytes k 0) (let w : a ≤ i = in_a.0 in let z : a + (i - a) ≡ i = omega arith in z)
        | inr out_a ↦ with_part-out a x0 two i (omega arith) (subst (λ n. (i < a) ⊎ (a + n ≤ i)) (sym lx) out_a)
            ∙ with_part-out b y one i (omega arith) out_b ∙ with_part-out a x bytes i (omega arith) out_a
      ]
    ])
  where
    where_is : (i b n : ℕ) → ((b ≤ i) × (i < b + n)) ⊎ ((i < b) ⊎ (b + n ≤ i))
    where_is i b n = grind arith

-- a part of a part
pub part-nested : (n a m p : ℕ) (xs : List ℕ) → a + n ≤ m → p + m ≤ length xs → take n (drop a (take m (drop p xs))) ≡ take n (drop (p + a) xs)
part-nested n a m p xs inside fits =
    let mid : length (take m (drop p xs)) ≡ m = length-take-le m (drop p xs) (omega (arith, length-drop p xs)) in
    let left : length (take n (drop a (take m (drop p xs)))) ≡ n = length-take-le n (drop a (take m (drop p xs))) (omega (arith, length-drop a (take m (drop p xs)))) in
    let right : length (take n (drop (p + a) xs)) ≡ n = length-take-le n (drop (p + a) xs) (omega (arith, length-drop (p + a) xs)) in
    ext_get_or 0 _ _ (left ∙ sym right) (λ i l. get_or-take n (drop a (take m (drop p xs))) i 0 (omega arith) ∙ get_or-drop a (take m (drop p xs)) i 0
    ∙ get_or-take m (drop p xs) (a + i) 0 (omega arith) ∙ get_or-drop p xs (a + i) 0 ∙ ap (λ k. get_or xs k 0) (let z : p + (a + i) ≡ p + a + i = omega arith in z)
    ∙ sym (get_or-take n (drop (p + a) xs) i 0 (omega arith) ∙ get_or-drop (p + a) xs i 0))

pub AreBytes-with_part : (at : ℕ) (new bytes : List ℕ) → AreBytes new → AreBytes bytes → AreBytes (with_part at new bytes)
AreBytes-with_part at new bytes a b =
    AreBytes-append (take at bytes) (new ++ drop (at + length new) bytes) (AreBytes-take at bytes b)
    (AreBytes-append new (drop (at + length new) bytes) a (AreBytes-drop (at + length new) bytes b))
