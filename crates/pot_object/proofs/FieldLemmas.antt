-- Fields that are written one after another, and a seal between a head and a rest.
use Rattle.std.proofs.Common.{◌≡◌, ◌≤◌, ◌+◌, ◌-◌, ◌++◌, ℕ, List, [], length, take, drop, ap, sym, ◌∙◌, arith, length-append, length-drop}
use Rattle.std.proofs.lemmas.List.{length-take-le, append-nil, append_assoc, drop_all, drop_at, drop-drop, take_at, take_rest}
use Rattle.std.proofs.lemmas.Slice.{take-put_mid_below}
use borrow.Rule.Slice.PartMut.{put_mid, post_of}

-- what was written goes on: `b` is written behind `w`, over what was there
pub put_next : (w old xs ys b : List ℕ) (at n : ℕ) → length w ≡ at → xs ≡ w ++ drop at old
    → ys ≡ b ++ drop n (take (length xs - at) (drop at xs))
    → put_mid at (length xs - at) xs ys ≡ (w ++ b) ++ drop (at + n) old
put_next w old xs ys b at n whole before written =
    let front : take at xs ≡ w = ap (take at) before ∙ take_at w (drop at old) at whole in
    let back : drop at xs ≡ drop at old = ap (drop at) before ∙ drop_at w (drop at old) at whole in
    let none : drop (length xs - at) (drop at xs) ≡ [] =
    drop_all (length xs - at) (drop at xs) (omega (arith, length-drop {A = ℕ} at xs)) in
    let next : ys ≡ b ++ drop (at + n) old =
    written ∙ ap (λ (z : List ℕ). b ++ drop n z) (take_rest xs at ∙ back) ∙ ap (λ (z : List ℕ). b ++ z) (drop-drop n at old) in
    ap (λ (z : List ℕ). z ++ (ys ++ post_of at (length xs - at) xs)) front
    ∙ ap (λ (z : List ℕ). w ++ (ys ++ z)) none
    ∙ ap (λ (z : List ℕ). w ++ z) (append-nil ys ∙ next)
    ∙ sym (append_assoc w b (drop (at + n) old))

-- the same where all bytes that are left are written
pub put_last : (w old xs ys b : List ℕ) (at : ℕ) → length w ≡ at → xs ≡ w ++ drop at old → ys ≡ b
    → put_mid at (length xs - at) xs ys ≡ w ++ b
put_last w old xs ys b at whole before written =
    let front : take at xs ≡ w = ap (take at) before ∙ take_at w (drop at old) at whole in
    let none : drop (length xs - at) (drop at xs) ≡ [] =
    drop_all (length xs - at) (drop at xs) (omega (arith, length-drop {A = ℕ} at xs)) in
    ap (λ (z : List ℕ). z ++ (ys ++ post_of at (length xs - at) xs)) front
    ∙ ap (λ (z : List ℕ). w ++ (ys ++ z)) none
    ∙ ap (λ (z : List ℕ). w ++ z) (append-nil ys ∙ written)

-- the same where `k` bytes are lent and written
pub put_field : (w old xs ys b : List ℕ) (at k : ℕ) → length w ≡ at → xs ≡ w ++ drop at old → ys ≡ b
    → put_mid at k xs ys ≡ (w ++ b) ++ drop (at + k) old
put_field w old xs ys b at k whole before written =
    let front : take at xs ≡ w = ap (take at) before ∙ take_at w (drop at old) at whole in
    let back : drop k (drop at xs) ≡ drop (at + k) old =
    ap (λ (z : List ℕ). drop k (drop at z)) before ∙ ap (drop k) (drop_at w (drop at old) at whole) ∙ drop-drop k at old in
    ap (λ (z : List ℕ). z ++ (ys ++ post_of at k xs)) front
    ∙ ap (λ (z : List ℕ). w ++ (ys ++ z)) back
    ∙ ap (λ (z : List ℕ). w ++ (z ++ drop (at + k) old)) written
    ∙ sym (append_assoc w b (drop (at + k) old))

-- the head before a rest that was written from byte 64 on
pub head_before : (head old ys : List ℕ) (k : ℕ) → length head ≡ 32 → length old ≡ 64 + k
    → take 32 (put_mid 64 k (head ++ drop 32 old) ys) ≡ head
head_before head old ys k whole n =
    let h1 = head ++ drop 32 old in
    let long : 64 ≤ length h1 = omega (arith, length-append {A = ℕ} head (drop 32 old), length-drop {A = ℕ} 32 old) in
    take-put_mid_below 64 k h1 ys 32 (omega arith) long ∙ take_at head (drop 32 old) 32 whole

-- the rest that was written from byte 64 on
pub rest_after : (head old ys : List ℕ) (k : ℕ) → length head ≡ 32 → length old ≡ 64 + k
    → drop 64 (put_mid 64 k (head ++ drop 32 old) ys) ≡ ys
rest_after head old ys k whole n =
    let h1 = head ++ drop 32 old in
    let long : length h1 ≡ 64 + k = omega (arith, length-append {A = ℕ} head (drop 32 old), length-drop {A = ℕ} 32 old) in
    let none : drop k (drop 64 h1) ≡ [] = drop_all k (drop 64 h1) (omega (arith, length-drop {A = ℕ} 64 h1)) in
    drop_at (take 64 h1) (ys ++ post_of 64 k h1) 64 (length-take-le 64 h1 (omega arith))
    ∙ ap (λ (z : List ℕ). ys ++ z) none ∙ append-nil ys
