-- Lists of bytes in order, each once.
use Rattle.std.proofs.Common.{◌≡◌, ◌↔◌, ◌⊎◌, inl, inr, ℕ, zero, suc, ◌<◌, ◌≤◌, Bool, true, false, List, [], ◌∷◌, ◌++◌, length, take, get_or, refl, sym, ◌∙◌, subst, arith, IsPermutation, Ordering, Less, Equal, Greater, nat_cmp}
use Rattle.std.specs.Prelude.{AllPairs, IsTrue}
use Rattle.std.specs.Ordering.{eq_by_cmp, is_le, ordering_then}
use Rattle.std.specs.Cmp.{IsEquivalence}
use Rattle.std.specs.Cmp.Lexicographic.{slice_cmp}
use Rattle.std.specs.List.{dedup, AllByRecursion}
use Rattle.std.specs.List.Sorted.{IsStrictlySortedBy, IsSorted}
use Rattle.std.proofs.lemmas.Cmp.{nat_list_cmp_total, eq_by_cmp_equiv}
use Rattle.std.proofs.lemmas.List.Kept.{IsStrictlySortedBy-dedup, Any-dedup, Contains-from_dedup}
use Rattle.std.proofs.lemmas.List.Sorted.{Contains-permutation, IsPermutation-sym}
use Rattle.std.proofs.lemmas.Map.Lookups.{exact_bytes, exact_unsigned}
use Rattle.std.proofs.lemmas.Bool.{cases_lt}
use Rattle.std.proofs.lemmas.Bool.Decides.{nat_tests}
use Rattle.pot_chains.specs.Listed.{IsIn, IsOnce}
use Rattle.pot_chains.proofs.ListedLemmas.{in_from_contains, contains_from_in, in_append, in_left, in_right}
use Rattle.pot_recover.specs.Contents.{HeadsRise}
use Rattle.pot_recover.specs.Recovered.{IsBytesBefore}
use Rattle.pot_recover.proofs.OrderLemmas.{once_from_sorted}

module _ (E : List ℕ → List ℕ → Bool) (ties : (x y : List ℕ) → E x y ≡ eq_by_cmp (slice_cmp nat_cmp) x y)
    (old middle : List (List ℕ)) (moved : IsPermutation old middle) (sorted : IsSorted (slice_cmp nat_cmp) middle) where
  equivalence : IsEquivalence E
  equivalence =
      let e = eq_by_cmp_equiv nat_list_cmp_total in
      record {
        refl = λ x. ties x x ∙ e.refl x;
        symm = λ x y. ties x y ∙ (e.symm x y ∙ sym (ties y x));
        congr = λ x y z h. ties x z ∙ (e.congr x y z (sym (ties x y) ∙ h) ∙ sym (ties y z));
      }

  one_list : (x y : List ℕ) → E x y ≡ true → x ≡ y
  one_list x y h = exact_bytes x y (is_equal (slice_cmp nat_cmp x y) (sym (ties x y) ∙ h))
    where
      is_equal : (o : Ordering) → (elim o [ Less ↦ false | Equal ↦ true | Greater ↦ false ]) ≡ true → o ≡ Equal
      is_equal Less e = absurd (cc)
      is_equal Equal e = refl
      is_equal Greater e = absurd (cc)

  pub distinct_order : IsStrictlySortedBy (slice_cmp nat_cmp) (dedup E middle)
  distinct_order = IsStrictlySortedBy-dedup nat_list_cmp_total ties middle sorted

  pub distinct_same : (l : List ℕ) → IsIn (dedup E middle) l ↔ IsIn old l
  distinct_same l = (
    λ h. in_from_contains old l (Contains-permutation middle old l (IsPermutation-sym old middle moved) (Contains-from_dedup E middle l (contains_from_in (dedup E middle) l h))),
    λ h.
        let kept = Any-dedup equivalence middle l (Contains-permutation old middle l moved (contains_from_in old l h)) in
        subst (IsIn (dedup E middle)) (sym (one_list l kept.1 kept.4)) (in_from_contains (dedup E middle) kept.1 (kept.0, kept.2, kept.3)),
  )

pub list_pushed : (old new : List (List ℕ)) (list : List ℕ) → new ≡ old ++ list ∷ [] → (l : List ℕ) → IsIn new l ↔ (IsIn old l ⊎ (list ≡ l))
list_pushed old new list e l = (
  λ h. elim (in_append old (list ∷ []) l (subst (λ k. IsIn k l) e h)) [ inl a ↦ inl a | inr b ↦ elim b [ inl same ↦ inr same | inr none ↦ absurd none ] ],
  λ h. subst (λ k. IsIn k l) (sym e) (elim h [ inl a ↦ in_left old (list ∷ []) l a | inr same ↦ in_right old (list ∷ []) l (inl same) ]),
)

in_front : (a : List ℕ) (ls : List (List ℕ)) → AllByRecursion (λ y. slice_cmp nat_cmp a y ≡ Less) ls → (j : ℕ) (d : List ℕ) → j < length ls
    → slice_cmp nat_cmp a (get_or ls j d) ≡ Less
in_front a [] h j d less = absurd (omega arith)
in_front a (x ∷ ls) h zero d less = h.0
in_front a (x ∷ ls) h (suc j) d less = in_front a ls h.1 j d (omega arith)

-- what is strictly in order is so for each two
pub pairs_in_order : (ls : List (List ℕ)) → IsStrictlySortedBy (slice_cmp nat_cmp) ls → AllPairs (λ a b. slice_cmp nat_cmp a b ≡ Less) ls
unfolding IsStrictlySortedBy
pairs_in_order [] h i j d less within = absurd (omega arith)
pairs_in_order (x ∷ ls) h zero zero d less within = absurd (omega arith)
pairs_in_order (x ∷ ls) h zero (suc j) d less within = in_front x ls h.0 j d (omega arith)
pairs_in_order (x ∷ ls) h (suc i) zero d less within = absurd (omega arith)
pairs_in_order (x ∷ ls) h (suc i) (suc j) d less within = pairs_in_order ls h.1 i j d (omega arith) (omega arith)

-- fronts do not fall where lists rise
pub fronts_rise : (k : ℕ) (a b : List ℕ) → slice_cmp nat_cmp a b ≡ Less → IsTrue (is_le (slice_cmp nat_cmp (take k a) (take k b)))
fronts_rise zero a b h = refl
fronts_rise (suc k) [] [] h = refl
fronts_rise (suc k) [] (y ∷ ys) h = refl
fronts_rise (suc k) (x ∷ xs) [] h = absurd (cc)
fronts_rise (suc k) (x ∷ xs) (y ∷ ys) h = by (nat_cmp x y) (λ e. fronts_rise k xs ys e) h
  where
    by : (o : Ordering) → (slice_cmp nat_cmp xs ys ≡ Less → IsTrue (is_le (slice_cmp nat_cmp (take k xs) (take k ys)))) → ordering_then o (slice_cmp nat_cmp xs ys) ≡ Less
        → IsTrue (is_le (ordering_then o (slice_cmp nat_cmp (take k xs) (take k ys))))
    by Less rest e = refl
    by Equal rest e = rest e
    by Greater rest e = absurd (cc)

pub heads_rise : (ls : List (List ℕ)) → IsStrictlySortedBy (slice_cmp nat_cmp) ls → HeadsRise ls
heads_rise ls h i j d less within = fronts_rise 18 (get_or ls i d) (get_or ls j d) (pairs_in_order ls h i j d less within)

-- `nat_cmp` by its answers
module _ (x y : ℕ) where
  less_of : nat_cmp x y ≡ Less → x < y
  less_of e = elim (cases_lt x y) [ inl less ↦ less | inr le ↦ absurd (not_less le e) ]
    where
      not_less : y ≤ x → nat_cmp x y ≡ Less → ⊥
      not_less le e = grind (arith, nat_tests)

  same_of : nat_cmp x y ≡ Equal → x ≡ y
  same_of e = exact_unsigned x y e

-- what compares as less stands before in byte order
before : (a b : List ℕ) → slice_cmp nat_cmp a b ≡ Less → IsBytesBefore a b
before [] [] h = absurd (cc)
before [] (y ∷ ys) h = tt
before (x ∷ xs) [] h = absurd (cc)
before (x ∷ xs) (y ∷ ys) h = by (nat_cmp x y) refl (λ e. before xs ys e) h
  where
    by : (o : Ordering) → nat_cmp x y ≡ o → (slice_cmp nat_cmp xs ys ≡ Less → IsBytesBefore xs ys) → ordering_then o (slice_cmp nat_cmp xs ys) ≡ Less → (x < y) ⊎ ((x ≡ y) × IsBytesBefore xs ys)
    by Less e rest h = inl (less_of x y e)
    by Equal e rest h = inr (same_of x y e, rest h)
    by Greater e rest h = absurd (cc)

pub in_byte_order : (ls : List (List ℕ)) → IsStrictlySortedBy (slice_cmp nat_cmp) ls → AllPairs IsBytesBefore ls
in_byte_order ls h i j d less within = before (get_or ls i d) (get_or ls j d) (pairs_in_order ls h i j d less within)

pub once_in_order : (ls : List (List ℕ)) → IsStrictlySortedBy (slice_cmp nat_cmp) ls → IsOnce ls
once_in_order ls h = once_from_sorted nat_list_cmp_total ls h
