-- A list in order of its keys, compared with one key.
use Rattle.std.proofs.Common.{◌≡◌, ℕ, ◌≤◌, inl, inr, true, List, get_or, refl, subst, arith, Ordering, Less, Equal, Greater, nat_cmp}
use Rattle.std.specs.Prelude.{AllPairs, IsTrue}
use Rattle.std.specs.Ordering.{is_le, is_eq, ordering_index}
use Rattle.std.specs.Cmp.Lexicographic.{slice_cmp}
use Rattle.std.specs.BTreeMap.Comparable.{le_lt_trans}
use Rattle.std.specs.List.Sorted.{IsNonDecreasingBy}
use Rattle.std.proofs.lemmas.Cmp.{nat_list_cmp_total}
use Rattle.std.proofs.lemmas.Map.Lookups.{exact_bytes}
use Rattle.std.proofs.lemmas.Bool.{cases_lt}

pub equal_is : (o : Ordering) → is_eq o ≡ true → o ≡ Equal
equal_is Less h = absurd (cc)
equal_is Equal h = refl
equal_is Greater h = absurd (cc)

index_at_most : (o : Ordering) → is_le o ≡ true → ordering_index o ≤ 1
index_at_most Less h = omega arith
index_at_most Equal h = omega arith
index_at_most Greater h = absurd (cc)

index_bound : (o : Ordering) → ordering_index o ≤ 2
index_bound Less = omega arith
index_bound Equal = omega arith
index_bound Greater = omega arith

module _ {X : Type 0} (key : X → List ℕ) (target : List ℕ) where
  abbrev at : X → Ordering
  at x = slice_cmp nat_cmp (key x) target

  rises : (x y : X) → IsTrue (is_le (slice_cmp nat_cmp (key x) (key y))) → (o : Ordering) → at y ≡ o → ordering_index (at x) ≤ ordering_index o
  rises x y h Less e = rw (le_lt_trans nat_list_cmp_total (key x) (key y) target h e) (omega arith)
  rises x y h Equal e = index_at_most (at x) (subst (λ t. is_le (slice_cmp nat_cmp (key x) t) ≡ true) (exact_bytes (key y) target e) h)
  rises x y h Greater e = index_bound (at x)

  -- what the keys compare as rises along the list
  pub compares_rise : (xs : List X) → AllPairs (λ a b. IsTrue (is_le (slice_cmp nat_cmp (key a) (key b)))) xs
      → IsNonDecreasingBy (λ x. ordering_index (slice_cmp nat_cmp (key x) target)) xs
  compares_rise xs rise i j d le within =
      elim (cases_lt i j) [
        | inl less ↦ rises (get_or xs i d) (get_or xs j d) (rise i j d less within) (at (get_or xs j d)) refl
        | inr same ↦ (let e : i ≡ j = omega (arith, le, same) in rw e (omega arith))
      ]
