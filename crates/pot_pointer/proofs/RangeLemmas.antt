-- The part of a list that compares equal, between the ends that two searches find.
use Rattle.std.proofs.Common.{◌≡◌, ℕ, ◌+◌, ◌<◌, ◌≤◌, Bool, true, false, List, length, get_or, take, refl, sym, ◌∙◌, subst, arith, filter, ltb, leb, Ordering, Less, Equal, Greater}
use Rattle.std.specs.Prelude.{slice_range}
use Rattle.std.specs.Ordering.{is_lt, is_le, is_eq, ordering_index}
use Rattle.std.specs.List.Sorted.{IsNonDecreasingBy, IsPartitionedBy, IsPartitionPoint}
use Rattle.std.proofs.lemmas.List.{get_or-take, get_or-drop, length-take-le, length-drop}
use Rattle.std.proofs.lemmas.List.Edits.{get_or-between, length-between}
use Rattle.std.proofs.lemmas.List.Sorted.{IsPartitionedBy-ltb, IsPartitionedBy-leb}
use Rattle.pot_pointer.proofs.FilterLemmas.{filter_is_part}

less_by_index : (o : Ordering) → ltb (ordering_index o) 1 ≡ is_lt o
less_by_index Less = refl
less_by_index Equal = refl
less_by_index Greater = refl

at_most_by_index : (o : Ordering) → leb (ordering_index o) 1 ≡ is_le o
at_most_by_index Less = refl
at_most_by_index Equal = refl
at_most_by_index Greater = refl

pub below_not : (o : Ordering) → is_lt o ≡ true → is_eq o ≡ false
below_not Less h = refl
below_not Equal h = absurd (cc)
below_not Greater h = absurd (cc)

above_not : (o : Ordering) → is_le o ≡ false → is_eq o ≡ false
above_not Less h = absurd (cc)
above_not Equal h = absurd (cc)
above_not Greater h = refl

between_is : (o : Ordering) → is_lt o ≡ false → is_le o ≡ true → is_eq o ≡ true
between_is Less h k = absurd (cc)
between_is Equal h k = refl
between_is Greater h k = absurd (cc)

module _ {X : Type 0} (at : X → Ordering) where
  abbrev index : X → ℕ
  index x = ordering_index (at x)

  pub partitioned_below : (xs : List X) → IsNonDecreasingBy (λ x. ordering_index (at x)) xs → IsPartitionedBy (λ x. is_lt (at x)) xs
  partitioned_below xs rises = subst (λ (p : X → Bool). IsPartitionedBy p xs) (λ i x. less_by_index (at x) i) (IsPartitionedBy-ltb index xs 1 rises)

  pub partitioned_at_most : (xs : List X) → IsNonDecreasingBy (λ x. ordering_index (at x)) xs → IsPartitionedBy (λ x. is_le (at x)) xs
  partitioned_at_most xs rises = subst (λ (p : X → Bool). IsPartitionedBy p xs) (λ i x. at_most_by_index (at x) i) (IsPartitionedBy-leb index xs 1 rises)

  module _ (xs : List X) (end : ℕ) (end_within : end ≤ length xs) where
    in_front : (k : ℕ) (d : X) → k < length (take end xs) → get_or (take end xs) k d ≡ get_or xs k d
    in_front k d less = get_or-take end xs k d (omega (arith, less, length-take-le end xs end_within))

    pub rises_in_front : IsNonDecreasingBy (λ x. ordering_index (at x)) xs → IsNonDecreasingBy (λ x. ordering_index (at x)) (take end xs)
    rises_in_front rises i j d le inside =
        rw (in_front i d (omega (arith, le, inside)), in_front j d inside)
        (rises i j d le (omega (arith, inside, end_within, length-take-le end xs end_within)))

    module _ (start : ℕ) (start_within : start ≤ length (take end xs))
        (at_most : IsPartitionPoint (λ x. is_le (at x) ≡ true) (λ x. is_le (at x) ≡ false) xs end)
        (below : IsPartitionPoint (λ x. is_lt (at x) ≡ true) (λ x. is_lt (at x) ≡ false) (take end xs) start) where
      ordered : start ≤ end
      ordered = omega (arith, start_within, length-take-le end xs end_within)

      pub range_is_filter : slice_range xs start end ≡ filter (λ x. is_eq (at x)) xs
      range_is_filter =
          filter_is_part (λ x. is_eq (at x)) xs start end ordered end_within
          (λ k d h.
          let before : k < start = omega (arith, h, length-take-le start xs (omega (arith, ordered, end_within))) in
          subst (λ x. is_eq (at x) ≡ false) (in_front k d (omega (arith, before, start_within)) ∙ sym (get_or-take start xs k d before))
          (below_not (at (get_or (take end xs) k d)) (below.0 k d (omega arith) before)))
          (λ k d h.
          let inside : start + k < end = omega (arith, h, length-between xs start end end_within) in
          let in_take : start + k < length (take end xs) = omega (arith, inside, length-take-le end xs end_within) in
          subst (λ x. is_eq (at x) ≡ true) (sym (get_or-between xs start end k d inside))
          (between_is (at (get_or xs (start + k) d))
          (subst (λ x. is_lt (at x) ≡ false) (in_front (start + k) d in_take) (below.1 (start + k) d (omega arith) in_take))
          (at_most.0 (start + k) d (omega arith) inside)))
          (λ k d h.
          let after : end + k < length xs = omega (arith, h, length-drop end xs) in
          subst (λ x. is_eq (at x) ≡ false) (sym (get_or-drop end xs k d))
          (above_not (at (get_or xs (end + k) d)) (at_most.1 (end + k) d (omega arith) after)))
