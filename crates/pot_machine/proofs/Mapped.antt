-- A list whose first elements were replaced by what a function makes of them.
use Rattle.std.proofs.Common.{◌≡◌, ℕ, zero, suc, ◌+◌, ◌<◌, ◌≤◌, refl, sym, ap, ◌∙◌, arith, add-one, List, [], ◌∷◌, length, get_or, set, map}

unfoldable pub mapped : {A : Type 0} → (A → A) → ℕ → List A → List A
mapped f zero xs = xs
mapped f (suc n) [] = []
mapped f (suc n) (x ∷ xs) = f x ∷ mapped f n xs

-- the next element is as it was
pub mapped-get : {A : Type 0} (f : A → A) (n : ℕ) (xs : List A) (d : A) → get_or (mapped f n xs) n d ≡ get_or xs n d
unfolding mapped
mapped-get f zero xs d = refl
mapped-get f (suc n) [] d = refl
mapped-get f (suc n) (x ∷ xs) d = mapped-get f n xs d

-- the next element is replaced
pub mapped-more : {A : Type 0} (f : A → A) (n : ℕ) (xs : List A) (d : A) → n < length xs → set (mapped f n xs) n (f (get_or xs n d)) ≡ mapped f (n + 1) xs
unfolding mapped
mapped-more f n xs d lt = more f n xs d lt ∙ ap (λ k. mapped f k xs) (sym (add-one n))
  where
    more : {A : Type 0} (f : A → A) (n : ℕ) (xs : List A) (d : A) → n < length xs → set (mapped f n xs) n (f (get_or xs n d)) ≡ mapped f (suc n) xs
    more f n [] d lt = absurd (omega arith)
    more f zero (x ∷ xs) d lt = refl
    more f (suc n) (x ∷ xs) d lt = ap (λ ys. f x ∷ ys) (more f n xs d (omega arith))

pub mapped-all : {A : Type 0} (f : A → A) (n : ℕ) (xs : List A) → length xs ≤ n → mapped f n xs ≡ map f xs
unfolding mapped
mapped-all f zero [] le = refl
mapped-all f zero (x ∷ xs) le = absurd (omega arith)
mapped-all f (suc n) [] le = refl
mapped-all f (suc n) (x ∷ xs) le = ap (λ ys. f x ∷ ys) (mapped-all f n xs (omega arith))

pub length-mapped : {A : Type 0} (f : A → A) (n : ℕ) (xs : List A) → length (mapped f n xs) ≡ length xs
unfolding mapped
length-mapped f zero xs = refl
length-mapped f (suc n) [] = refl
length-mapped f (suc n) (x ∷ xs) = ap suc (length-mapped f n xs)
