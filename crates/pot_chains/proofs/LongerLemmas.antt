-- Chains, each longer by the candidates of its last.
use Rattle.std.proofs.Common.{◌≡◌, ◌↔◌, ◌⊎◌, inl, inr, ℕ, zero, suc, ◌+◌, ◌<◌, ◌≤◌, List, [], ◌∷◌, ◌++◌, map, length, refl, sym, ap, ◌∙◌, subst, arith, take, get_or, add-one}
use Rattle.std.specs.Prelude.{AllPairs, slice_index}
use Rattle.std.specs.List.{Contains}
use Rattle.std.proofs.lemmas.Option.{get_or_from_slice_get}
use Rattle.pot_pointer.specs.Pointers.{IsBefore, IsCandidate}
use Rattle.pot_pointer.specs.declared.Named.{Named}
use Rattle.pot_chains.specs.Listed.{IsIn, IsOnce, IsListed, IsNumber}
use Rattle.pot_chains.specs.Paths.{last_of}
use Rattle.pot_chains.proofs.ListedLemmas.{listed_append, listed_map_on, listed_same, once_from_pairs, in_from_contains, contains_from_in, in_take, in_take_more, not_in_front, number_at_least, in_get_or}
use Rattle.pot_chains.proofs.ChainLemmas.{more_same}
use Rattle.pot_chains.specs.Steps.{end_of, with_candidate, IsPointedAt, IsLonger}

last_of_front : (p : ℕ) (ps : List ℕ) (n : ℕ) → n ≤ length ps → last_of p (take n ps) ≡ get_or (p ∷ ps) n 0
last_of_front p ps zero h = refl
last_of_front p [] (suc n) h = absurd (omega arith)
last_of_front p (q ∷ qs) (suc n) h = last_of_front q qs n (omega arith)

pub end_of_front : (xs : List ℕ) (n : ℕ) → n < length xs → end_of (take (suc n) xs) ≡ get_or xs n 0
end_of_front [] n h = absurd (omega arith)
end_of_front (p ∷ ps) n h = last_of_front p ps n (omega arith)

abbrev entry : ℕ → ℕ → Named
entry name position = record { name = name; position = position }

before_is_strict : (e : Named) → ¬ IsBefore e e
before_is_strict e (inl less) = omega arith
before_is_strict e (inr both) = omega (arith, both.1)

module _ (pointers names : List ℕ) (bits : ℕ) where
  -- what is found for one chain
  abbrev pub IsLongerOf : List ℕ → List ℕ → Type 0
  IsLongerOf chain y = (q : ℕ) × IsPointedAt pointers names bits (end_of chain) q × (chain ++ q ∷ [] ≡ y)

  pub candidates_listed : (chain : List ℕ) (found : List Named)
      → ((e : Named) → Contains found e ↔ IsCandidate names (slice_index pointers (end_of chain)) bits e)
      → AllPairs IsBefore found → IsListed (IsLongerOf chain) (map (with_candidate chain) found)
  candidates_listed chain found exact order =
      let pointer = slice_index pointers (end_of chain) in
      listed_same (λ y. (e : Named) × IsCandidate names pointer bits e × (with_candidate chain e ≡ y)) (IsLongerOf chain) (map (with_candidate chain) found)
      (λ y. (
        λ w. (w.0.position, (w.0.name, w.1.0, w.1.1), w.2),
        λ w. (record { name = w.1.0; position = w.0 }, (w.1.1, w.1.2), w.2),
      ))
      (listed_map_on (IsCandidate names pointer bits) (with_candidate chain) found
      (record {
        each = λ e. (λ h. (exact e).0 (contains_from_in found e h), λ h. in_from_contains found e ((exact e).1 h));
        once = once_from_pairs IsBefore before_is_strict found order;
      })
      (λ a b p q e.
      let position : a.position ≡ b.position = (more_same chain chain a.position b.position e).1 in
      let at_a = get_or_from_slice_get names a.position a.name 0 p.0 in
      let at_b = get_or_from_slice_get names b.position b.name 0 q.0 in
      let name : a.name ≡ b.name = sym at_a ∙ (ap (λ k. get_or names k 0) position ∙ at_b) in
      ap (λ n. entry n a.position) name ∙ ap (entry b.name) position))

  -- the chains so far, and those of the next
  pub longer_more : (chains : List (List ℕ)) (i : ℕ) (d : List ℕ) (xs ys : List (List ℕ)) → i < length chains → IsOnce chains
      → IsListed (IsLonger pointers names bits (take i chains)) xs → IsListed (IsLongerOf (get_or chains i d)) ys
      → IsListed (IsLonger pointers names bits (take (suc i) chains)) (xs ++ ys)
  longer_more chains i d xs ys inside once before here =
      let chain = get_or chains i d in
      listed_same (λ y. IsLonger pointers names bits (take i chains) y ⊎ IsLongerOf chain y) (IsLonger pointers names bits (take (suc i) chains)) (xs ++ ys)
      (λ y. (
        λ h. elim h [
          | inl w ↦ (w.0, (in_take_more i chains d w.0 inside).1 (inl w.1), w.2, w.3, w.4)
          | inr w ↦ (chain, (in_take_more i chains d chain inside).1 (inr refl), w.0, w.1, w.2)
        ],
        λ w. elim ((in_take_more i chains d w.0 inside).0 w.1) [
          | inl front ↦ inl (w.0, front, w.2, w.3, w.4)
          | inr is ↦ inr (w.2, subst (λ c. IsPointedAt pointers names bits (end_of c) w.2) (sym is) w.3, subst (λ c. c ++ w.2 ∷ [] ≡ y) (sym is) w.4)
        ],
      ))
      (listed_append (IsLonger pointers names bits (take i chains)) (IsLongerOf chain) xs ys before here
      (λ y w v.
      let same : w.0 ≡ chain = (more_same w.0 chain w.2 v.0 (w.4 ∙ sym v.2)).0 in
      not_in_front i chains d inside once (subst (IsIn (take i chains)) same w.1)))

  -- chains of a front are chains of all
  pub at_least : (chains : List (List ℕ)) (i n : ℕ) (xs : List (List ℕ)) → IsListed (IsLonger pointers names bits (take i chains)) xs
      → IsNumber (IsLonger pointers names bits chains) n → length xs ≤ n
  at_least chains i n xs is number =
      number_at_least (IsLonger pointers names bits chains) n xs number is.once
      (λ y h. let w = (is.each y).0 h in (w.0, in_take i chains w.0 w.1, w.2, w.3, w.4))

  pub none_longer : (chains : List (List ℕ)) → IsListed (IsLonger pointers names bits (take 0 chains)) []
  none_longer chains = record { each = λ y. (λ h. absurd h, λ w. absurd w.1); once = tt }

  -- the chain at hand stands in the list
  pub stands : (chains : List (List ℕ)) (i : ℕ) (chain : List ℕ) → i < length chains → chain ≡ get_or chains i chain → IsIn chains chain
  stands chains i chain inside is = subst (IsIn chains) (sym is) (in_get_or i chains chain inside)

  -- the chains with those that are found for the one at hand
  pub found_more : (chains : List (List ℕ)) (i : ℕ) (chain : List ℕ) (end : ℕ) (found : List Named) (xs : List (List ℕ))
      → i < length chains → chain ≡ get_or chains i chain → IsOnce chains → end ≡ end_of chain
      → ((e : Named) → Contains found e ↔ IsCandidate names (slice_index pointers end) bits e) → AllPairs IsBefore found
      → IsListed (IsLonger pointers names bits (take i chains)) xs
      → IsListed (IsLonger pointers names bits (take (i + 1) chains)) (xs ++ map (with_candidate chain) found)
  found_more chains i chain end found xs inside is once at exact order before =
      let here = candidates_listed chain found
      (subst (λ n. (e : Named) → Contains found e ↔ IsCandidate names (slice_index pointers n) bits e) at exact) order in
      subst (λ k. IsListed (IsLonger pointers names bits (take k chains)) (xs ++ map (with_candidate chain) found)) (sym (add-one i))
      (longer_more chains i chain xs (map (with_candidate chain) found) inside once before
      (subst (λ l. IsListed (IsLongerOf l) (map (with_candidate chain) found)) is here))
