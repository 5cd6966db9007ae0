-- The seen blocks of a piece, place by place.
use Rattle.std.proofs.Common.{◌≡◌, ◌<◌, ◌≤◌, ◌+◌, ◌*◌, ◌++◌, ℕ, zero, suc, Bool, true, false, cond, List, [], ◌∷◌, length, map, filter, get_or, refl, sym, ap, ◌∙◌, arith, length-append}
use Rattle.std.specs.Prelude.{if◌then◌else◌}
use Rattle.std.specs.List.{range_with_len}
use Rattle.std.proofs.lemmas.List.{append_assoc, append-nil, map-append}
use Rattle.std.proofs.lemmas.List.Elements.{filter-append}
use Rattle.pot_shard.proofs.BlockLemmas.{range_more}
use Rattle.pot_veil.specs.Drills.{text_of}

-- what stands at the places below n that pass
abbrev pub picked : (ℕ → Bool) → (ℕ → List ℕ) → ℕ → List (List ℕ)
picked test at n = map at (filter test (range_with_len 0 n))

one : (at : ℕ → List ℕ) (n : ℕ) (b : Bool) → map at (cond b (n ∷ []) []) ≡ (if b then at n ∷ [] else [])
one at n true = refl
one at n false = refl

picked_more : (test : ℕ → Bool) (at : ℕ → List ℕ) (n : ℕ) → picked test at (n + 1) ≡ picked test at n ++ (if test n then at n ∷ [] else [])
picked_more test at n =
    ap (λ (z : List ℕ). map at (filter test z)) (range_more n)
    ∙ ap (map at) (filter-append test (range_with_len 0 n) (n ∷ []))
    ∙ map-append at (filter test (range_with_len 0 n)) (filter test (n ∷ []))
    ∙ ap (λ (z : List (List ℕ)). picked test at n ++ z) (one at n (test n))

count_one : (xs : List (List ℕ)) (y : List ℕ) (b : Bool) → length (xs ++ (if b then y ∷ [] else [])) ≡ length xs + (if b then 1 else 0)
count_one xs y true = length-append {A = List ℕ} xs (y ∷ [])
count_one xs y false = length-append {A = List ℕ} xs []

text_append : (xs ys : List (List ℕ)) → text_of (xs ++ ys) ≡ text_of xs ++ text_of ys
text_append [] ys = refl
text_append (x ∷ xs) ys = ap (λ (z : List ℕ). x ++ z) (text_append xs ys) ∙ sym (append_assoc x (text_of xs) (text_of ys))

text_one : (xs : List (List ℕ)) (y : List ℕ) (b : Bool) → text_of (xs ++ (if b then y ∷ [] else [])) ≡ text_of xs ++ (if b then y else [])
text_one xs y true = text_append xs (y ∷ []) ∙ ap (λ (z : List ℕ). text_of xs ++ z) (append-nil y)
text_one xs y false = text_append xs []

pub count_more : (test : ℕ → Bool) (at : ℕ → List ℕ) (n : ℕ) → length (picked test at (n + 1)) ≡ length (picked test at n) + (if test n then 1 else 0)
count_more test at n = ap length (picked_more test at n) ∙ count_one (picked test at n) (at n) (test n)

pub text_more : (test : ℕ → Bool) (at : ℕ → List ℕ) (n : ℕ) → text_of (picked test at (n + 1)) ≡ text_of (picked test at n) ++ (if test n then at n else [])
text_more test at n = ap text_of (picked_more test at n) ∙ text_one (picked test at n) (at n) (test n)

pub at_most_one : (b : Bool) → (if b then 1 else 0) ≤ 1
at_most_one true = omega arith
at_most_one false = omega arith

pub product_few : (k n : ℕ) → k ≤ 8 → n ≤ 16 → k * n ≤ 128
product_few k n a b = grind arith

-- an element that is there, whatever stands for one that is not
pub other_default : (xs : List (List ℕ)) (k : ℕ) (d e : List ℕ) → k < length xs → get_or xs k d ≡ get_or xs k e
other_default [] k d e lt = absurd (omega arith)
other_default (x ∷ xs) zero d e lt = refl
other_default (x ∷ xs) (suc k) d e lt = other_default xs k d e (omega arith)
