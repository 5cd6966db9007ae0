-- Elements of lists, for all crates above.
use Rattle.std.proofs.Common.{◌≡◌, ℕ, zero, suc, ◌<◌, ◌≤◌, Bool, true, false, List, [], ◌∷◌, ◌++◌, Some, length, slice_get, refl, ap, ◌∙◌, arith, get_or, zero-add}
use Rattle.std.specs.Prelude.{Any, Contains, filter, if◌then◌else◌, map}
use Rattle.std.proofs.lemmas.List.{length-append, get_or_append_left}
use Rattle.std.proofs.lemmas.Option.{same_Some}
use Rattle.std.specs.List.{range_with_len}
use Rattle.std.proofs.lemmas.List.FromFn.{get_or-range_with_len}

-- WHAT A LIST CONTAINS

pub none_contained : {X : Type 0} (x : X) → Contains [] x → ⊥
none_contained x (k, lt, is) = omega (arith, lt)

pub one_contained : {X : Type 0} (x y : X) → Contains (x ∷ []) y → x ≡ y
one_contained x y (zero, lt, is) = is
one_contained x y (suc k, lt, is) = absurd (omega (arith, lt))

pub contains_later : {X : Type 0} (x y : X) (xs : List X) → Contains xs y → Contains (x ∷ xs) y
contains_later x y xs (k, lt, is) = (suc k, omega (arith, lt), is)

pub contains_front : {X : Type 0} (xs ys : List X) (y : X) → Contains xs y → Contains (xs ++ ys) y
contains_front [] ys y h = absurd (none_contained y h)
contains_front (x ∷ xs) ys y (zero, lt, is) = (zero, omega arith, is)
contains_front (x ∷ xs) ys y (suc k, lt, is) = contains_later x y (xs ++ ys) (contains_front xs ys y (k, omega (arith, lt), is))

pub contains_back : {X : Type 0} (xs ys : List X) (y : X) → Contains ys y → Contains (xs ++ ys) y
contains_back [] ys y h = h
contains_back (x ∷ xs) ys y h = contains_later x y (xs ++ ys) (contains_back xs ys y h)

-- a list with an element is what stands before it, it, and what stands behind it
pub parted_at : {X : Type 0} (xs : List X) (x : X) → Contains xs x → (front : List X) × (back : List X) × (xs ≡ front ++ x ∷ back)
parted_at [] x h = absurd (none_contained x h)
parted_at (y ∷ xs) x (zero, lt, is) = ([], xs, ap (λ z. z ∷ xs) is)
parted_at (y ∷ xs) x (suc k, lt, is) = (let r = parted_at xs x (k, omega (arith, lt), is) in (y ∷ r.0, r.1, ap (λ zs. y ∷ zs) r.2))

pub any_front : {X : Type 0} (P : X → Type 0) (xs ys : List X) → Any P xs → Any P (xs ++ ys)
any_front P xs ys (k, x, lt, is, p) = (k, x, omega (arith, length-append xs ys, lt), get_or_append_left xs ys x k lt ∙ is, p)

-- BY PLACE

pub element_at : {X : Type 0} (xs : List X) (k : ℕ) → k < length xs → (x : X) × (slice_get xs k ≡ Some x)
element_at [] k lt = absurd (omega (arith, lt))
element_at (x ∷ xs) zero lt = (x, refl)
element_at (x ∷ xs) (suc k) lt = element_at xs k (omega (arith, lt))

pub element_of_map : {X Y : Type 0} (f : X → Y) (xs : List X) (k : ℕ) (y : Y) → slice_get (map f xs) k ≡ Some y → (x : X) × (slice_get xs k ≡ Some x) × (f x ≡ y)
element_of_map f [] k y e = absurd (cc)
element_of_map f (x ∷ xs) zero y e = (x, refl, same_Some (f x) y e)
element_of_map f (x ∷ xs) (suc k) y e = element_of_map f xs k y e

-- the first numbers, by place
pub at_range : (n k d : ℕ) → k < n → get_or (range_with_len 0 n) k d ≡ k
at_range n k d lt = get_or-range_with_len 0 n k d lt ∙ zero-add k

-- HOW MANY

pub length-filter_le : {X : Type 0} (test : X → Bool) (xs : List X) → length (filter test xs) ≤ length xs
length-filter_le test [] = omega arith
length-filter_le test (x ∷ xs) = by (test x) (length-filter_le test xs)
  where
    by : (b : Bool) → length (filter test xs) ≤ length xs → length (if b then x ∷ filter test xs else filter test xs) ≤ suc (length xs)
    by true le = omega arith
    by false le = omega arith
