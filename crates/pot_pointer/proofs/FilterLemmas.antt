-- What a filter keeps of a permutation, of a part that passes and of one that does not, and whether
-- an element is kept.
use Rattle.std.proofs.Common.{◌≡◌, ℕ, zero, suc, ◌<◌, ◌≤◌, Bool, true, false, cond, ◌↔◌, List, [], ◌∷◌, ◌++◌, filter, length, get_or, set, swap, take, drop, refl, sym, ap, ◌∙◌, subst, arith, append-nil, IsPermutation}
use Rattle.std.specs.Prelude.{All, Contains, slice_range}
use Rattle.std.specs.List.{AllByRecursion}
use Rattle.std.proofs.lemmas.List.Edits.{split_between}
use Rattle.std.proofs.lemmas.List.Elements.{filter-append, recursion_from_All, All-contains, All-contains_itself, All-filter, filter_passes}
use Rattle.std.proofs.lemmas.List.Sorted.{IsPermutation-refl, IsPermutation-keeps, IsPermutation-trans, IsPermutation-cons, IsPermutation-append_left, IsPermutation-append_comm}

module _ {X : Type 0} (p : X → Bool) where
  abbrev Kept : List X → List X → Type 0
  Kept xs ys = IsPermutation (filter p xs) (filter p ys)

  kept_under : (x : X) (xs ys : List X) → Kept xs ys → Kept (x ∷ xs) (x ∷ ys)
  kept_under x xs ys h =
      elim (p x) as (λ b. IsPermutation (cond b (x ∷ filter p xs) (filter p xs)) (cond b (x ∷ filter p ys) (filter p ys)))
      [ true ↦ IsPermutation-cons x _ _ h | false ↦ h ]

  kept_turned : (x y : X) (xs : List X) → Kept (x ∷ y ∷ xs) (y ∷ x ∷ xs)
  kept_turned x y xs =
      let l = filter p xs in
      elim (p x) as (λ b. IsPermutation (cond b (x ∷ cond (p y) (y ∷ l) l) (cond (p y) (y ∷ l) l)) (cond (p y) (y ∷ cond b (x ∷ l) l) (cond b (x ∷ l) l))) [
        | true ↦
            elim (p y) as (λ c. IsPermutation (x ∷ cond c (y ∷ l) l) (cond c (y ∷ x ∷ l) (x ∷ l)))
            [ true ↦ IsPermutation-append_left l (x ∷ y ∷ []) (y ∷ x ∷ []) (IsPermutation-append_comm (x ∷ []) (y ∷ [])) | false ↦ IsPermutation-refl (x ∷ l) ]
        | false ↦ IsPermutation-refl (cond (p y) (y ∷ l) l)
      ]

  to_head : (l : List X) (j : ℕ) (x d : X) → j < length l → Kept (x ∷ l) (get_or l j d ∷ set l j x)
  to_head [] j x d h = absurd (omega arith)
  to_head (y ∷ l) zero x d h = kept_turned x y l
  to_head (y ∷ l) (suc j) x d h =
      IsPermutation-trans _ _ _ (kept_turned x y l)
      (IsPermutation-trans _ _ _ (kept_under y (x ∷ l) (get_or l j d ∷ set l j x) (to_head l j x d (omega arith))) (kept_turned y (get_or l j d) (set l j x)))

  exchanged : (l : List X) (i j : ℕ) (d : X) → i < length l → j < length l → Kept l (set (set l i (get_or l j d)) j (get_or l i d))
  exchanged [] i j d h k = absurd (omega arith)
  exchanged (x ∷ l) zero zero d h k = IsPermutation-refl _
  exchanged (x ∷ l) zero (suc j) d h k = to_head l j x d (omega arith)
  exchanged (x ∷ l) (suc i) zero d h k = to_head l i x d (omega arith)
  exchanged (x ∷ l) (suc i) (suc j) d h k = kept_under x l (set (set l i (get_or l j d)) j (get_or l i d)) (exchanged l i j d (omega arith) (omega arith))

  swapped : (l : List X) (i j : ℕ) → i < length l → j < length l → Kept l (swap l i j)
  swapped [] i j h k = IsPermutation-refl []
  swapped (x ∷ l) i j h k = exchanged (x ∷ l) i j x h k

  -- a permutation keeps the same elements
  pub IsPermutation-filter : (xs ys : List X) → IsPermutation xs ys → IsPermutation (filter p xs) (filter p ys)
  IsPermutation-filter xs =
      IsPermutation-keeps xs (Kept xs) (IsPermutation-refl _) (λ l i j h k kept. IsPermutation-trans _ _ _ kept (swapped l i j h k))

  filter_all : (xs : List X) → AllByRecursion (λ x. p x ≡ true) xs → filter p xs ≡ xs
  filter_all [] h = refl
  filter_all (x ∷ xs) h = rw (h.0, filter_all xs h.1)

  filter_none : (xs : List X) → AllByRecursion (λ x. p x ≡ false) xs → filter p xs ≡ []
  filter_none [] h = refl
  filter_none (x ∷ xs) h = rw (h.0, filter_none xs h.1)

  -- where all that passes stands from i to j, the filter is that part
  pub filter_is_part : (xs : List X) (i j : ℕ) → i ≤ j → j ≤ length xs
      → All (λ x. p x ≡ false) (take i xs) → All (λ x. p x ≡ true) (slice_range xs i j) → All (λ x. p x ≡ false) (drop j xs)
      → slice_range xs i j ≡ filter p xs
  filter_is_part xs i j ordered within before inside after =
      let none_before = filter_none (take i xs) (recursion_from_All _ _ before) in
      let all_inside = filter_all (slice_range xs i j) (recursion_from_All _ _ inside) in
      let none_after = filter_none (drop j xs) (recursion_from_All _ _ after) in
      sym (ap (filter p) (split_between xs i j ordered)
      ∙ filter-append p (take i xs) (slice_range xs i j ++ drop j xs)
      ∙ ap (λ l. l ++ filter p (slice_range xs i j ++ drop j xs)) none_before
      ∙ filter-append p (slice_range xs i j) (drop j xs)
      ∙ ap (λ l. filter p (slice_range xs i j) ++ l) none_after
      ∙ append-nil (filter p (slice_range xs i j))
      ∙ all_inside)

  kept_from : (xs : List X) (x : X) (k : ℕ) → k < length xs → get_or xs k x ≡ x → p x ≡ true → Contains (filter p xs) x
  kept_from [] x k within is passes = absurd (omega arith)
  kept_from (y ∷ ys) x zero within is passes =
      subst (λ b. Contains (cond b (y ∷ filter p ys) (filter p ys)) x) (sym (ap p is ∙ passes)) (0, omega arith, is)
  kept_from (y ∷ ys) x (suc k) within is passes =
      let rest = kept_from ys x k (omega arith) is passes in
      elim (p y) as (λ b. Contains (cond b (y ∷ filter p ys) (filter p ys)) x)
      [ true ↦ (suc rest.0, omega (arith, rest.1), rest.2) | false ↦ rest ]

  -- an element is kept exactly where it is there and passes
  pub Contains-filter : (xs : List X) (x : X) → Contains (filter p xs) x ↔ (Contains xs x × (p x ≡ true))
  Contains-filter xs x = (
    λ kept. (
      All-contains (Contains xs) (filter p xs) x (All-filter p (Contains xs) xs (All-contains_itself xs)) kept,
      All-contains (λ y. p y ≡ true) (filter p xs) x (filter_passes p xs) kept,
    ),
    λ there. kept_from xs x there.0.0 there.0.1 there.0.2 there.1,
  )
