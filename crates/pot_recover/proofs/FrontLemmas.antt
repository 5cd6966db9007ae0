-- The first object with a front.
use Rattle.std.proofs.Common.{◌≡◌, ◌<◌, ◌≤◌, ◌+◌, inl, inr, ℕ, zero, suc, cond, not, Bool, true, false, List, [], ◌∷◌, length, get_or, refl, sym, ap, ◌∙◌, arith, Ordering, Less, Equal, Greater, nat_cmp}
use Rattle.std.specs.Prelude.{Some, None, nat_lt}
use Rattle.std.specs.Ordering.{is_lt, is_eq, is_le}
use Rattle.std.specs.Cmp.Lexicographic.{slice_cmp}
use Rattle.std.specs.List.{position, position_or_len}
use Rattle.std.specs.List.Sorted.{IsPartitionPoint, IsStrictlySortedBy}
use Rattle.std.proofs.lemmas.Map.Text.{is_eq-slice_cmp}
use Rattle.std.proofs.lemmas.Bool.{cases_lt}
use Rattle.std.proofs.lemmas.Bool.Decides.{nat_tests}
use Rattle.pot_recover.specs.Fronts.{front_of, has_front, is_below, FrontsRise}
use Rattle.pot_recover.proofs.DistinctLemmas.{fronts_rise, pairs_in_order}
use Rattle.pot_pointer.proofs.RangeLemmas.{partitioned_at_most, below_not}
use Rattle.pot_recover.proofs.PartLemmas.{compares_rise}

-- in byte order the fronts do not fall
pub objects_rise : (objects : List (List ℕ)) → IsStrictlySortedBy (slice_cmp nat_cmp) objects → FrontsRise objects
objects_rise objects h i j d less within = fronts_rise 32 (get_or objects i d) (get_or objects j d) (pairs_in_order objects h i j d less within)

equal_is_most : (o : Ordering) → is_eq o ≡ true → is_le o ≡ true
equal_is_most Less h = absurd (cc)
equal_is_most Equal h = refl
equal_is_most Greater h = absurd (cc)

not_both_is : (o : Ordering) → is_lt o ≡ false → is_le o ≡ true → is_eq o ≡ false → ⊥
not_both_is Less below most other = absurd (cc)
not_both_is Equal below most other = absurd (cc)
not_both_is Greater below most other = absurd (cc)

module _ {X : Type 0} (p : X → Bool) where
  first_passes : (xs : List X) (place : ℕ) (d : X) → place < length xs → ((k : ℕ) → k < place → p (get_or xs k d) ≡ false) → p (get_or xs place d) ≡ true
      → position_or_len p xs ≡ place
  first_passes [] place d l before at = absurd (omega (arith, l))
  first_passes (x ∷ xs) zero d l before at = ap (λ b. cond (not b) (1 + position_or_len p xs) 0) at
  first_passes (x ∷ xs) (suc place) d l before at =
      ap (λ b. cond (not b) (1 + position_or_len p xs) 0) (before 0 (omega arith))
      ∙ (let r = first_passes xs place d (omega (arith, l)) (λ k less. before (suc k) (omega (arith, less))) at in omega (arith, r))

  none_passes : (xs : List X) (d : X) → ((k : ℕ) → k < length xs → p (get_or xs k d) ≡ false) → position_or_len p xs ≡ length xs
  none_passes [] d before = refl
  none_passes (x ∷ xs) d before =
      ap (λ b. cond (not b) (1 + position_or_len p xs) 0) (before 0 (omega arith)) ∙ (let r = none_passes xs d (λ k less. before (suc k) (omega (arith, less))) in omega (arith, r))

  -- the place of the first that passes
  pub found_at : (xs : List X) (place : ℕ) (d : X) → place < length xs → ((k : ℕ) → k < place → p (get_or xs k d) ≡ false) → p (get_or xs place d) ≡ true
      → Some place ≡ position p xs
  found_at xs place d l before at =
      let e = first_passes xs place d l before at in
      sym (ap (λ n. cond (nat_lt n (length xs)) (Some n) None) e ∙ ap (λ b. cond b (Some place) None) (is_less place (length xs) l))
    where
      is_less : (a b : ℕ) → a < b → nat_lt a b ≡ true
      is_less a b l = grind (arith, nat_tests)

  -- none passes
  pub found_none : (xs : List X) (d : X) → ((k : ℕ) → k < length xs → p (get_or xs k d) ≡ false) → None ≡ position p xs
  found_none xs d before =
      let e = none_passes xs d before in
      sym (ap (λ n. cond (nat_lt n (length xs)) (Some n) None) e ∙ ap (λ b. cond b (Some (length xs)) None) (not_less (length xs)))
    where
      not_less : (a : ℕ) → nat_lt a a ≡ false
      not_less a = grind (arith, nat_tests)

-- THE FRONTS

module _ (objects : List (List ℕ)) (front : List ℕ) (rise : FrontsRise objects) (place : ℕ) (within : place ≤ length objects)
    (split : IsPartitionPoint (λ o. is_below front o ≡ true) (λ o. is_below front o ≡ false) objects place) where
  none_before : (k : ℕ) → k < place → has_front front (get_or objects k []) ≡ false
  none_before k less =
      sym (is_eq-slice_cmp (front_of (get_or objects k [])) front) ∙ below_not (slice_cmp nat_cmp (front_of (get_or objects k [])) front) (split.0 k [] (omega arith) less)

  pub first_is : place < length objects → has_front front (get_or objects place []) ≡ true → Some place ≡ position (has_front front) objects
  first_is less has = found_at (has_front front) objects place [] less none_before has

  pub none_is_past : place ≡ length objects → None ≡ position (has_front front) objects
  none_is_past e = found_none (has_front front) objects [] (λ k less. none_before k (omega (arith, e, less)))

  -- where the one at the place is another, so are all that follow
  pub none_is_other : place < length objects → has_front front (get_or objects place []) ≡ false → None ≡ position (has_front front) objects
  none_is_other less other = found_none (has_front front) objects [] each
    where
      at : ℕ → Ordering
      at k = slice_cmp nat_cmp (front_of (get_or objects k [])) front

      same : (k : ℕ) → has_front front (get_or objects k []) ≡ is_eq (at k)
      same k = sym (is_eq-slice_cmp (front_of (get_or objects k [])) front)

      here : is_eq (at place) ≡ false
      here = sym (same place) ∙ other

      by : (k : ℕ) → k < length objects → place ≤ k → (b : Bool) → is_eq (at k) ≡ b → b ≡ false
      by k l le false e = refl
      by k l le true e =
          let most = partitioned_at_most (λ o. slice_cmp nat_cmp (front_of o) front) objects (compares_rise front_of front objects rise) place k [] le l (equal_is_most (at k) e) in
          absurd (not_both_is (at place) (split.1 place [] (omega arith) less) most here)

      each : (k : ℕ) → k < length objects → has_front front (get_or objects k []) ≡ false
      each k l = elim (cases_lt k place) [
        | inl before ↦ none_before k before
        | inr le ↦ same k ∙ by k l le (is_eq (at k)) refl
      ]
