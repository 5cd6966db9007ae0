-- Numbers that are free one behind the other are distinct, and the other way round.
use Rattle.std.proofs.Common.{◌≡◌, ◌⊎◌, inl, inr, ◌≤◌, ℕ, ◌==◌, ◌&&◌, ◌||◌, nat_eq, nat_le, Bool, true, false, not, List, [], ◌∷◌, ◌++◌, All, ap, ap₂, sym, ◌∙◌, refl, eq-eqb}
use Rattle.std.specs.List.{AllByRecursion, IsDistinct}
use Rattle.std.proofs.lemmas.List.Elements.{All-nil, All-cons, All-head, All-tail}
use Rattle.std.proofs.lemmas.List.Folds.{list_any-append}
use Rattle.std.proofs.lemmas.Map.Keys.{IsDistinct-head, IsDistinct-tail}
use Rattle.std.proofs.lemmas.Bool.{eqb-true, leb-true, le-leb, ne_eqb, cases_Bool, and_parts}
use Rattle.pot_image.specs.Rules.{AreArchives}
use Rattle.pot_image.proofs.ColumnRules.{AreFree, stands, stands_right, free_apart}

-- numbers that differ, the other way round
flipped : (n m : ℕ) → nat_eq n m ≡ false → nat_eq m n ≡ false
flipped n m h = ne_eqb m n (λ e. (let t : nat_eq n m ≡ true = eq-eqb n m (sym e) in cc))

-- FREE NUMBERS ARE DISTINCT

none_is : (n : ℕ) (ns : List ℕ) → stands n ns ≡ false → AllByRecursion (λ m. nat_eq n m ≡ false) ns
none_is n [] e = tt
none_is n (m ∷ ns) e = by_head (m == n) (stands n ns) refl e (λ h. none_is n ns h)
  where
    by_head : (a b : Bool) → nat_eq m n ≡ a → a || b ≡ false → (b ≡ false → AllByRecursion (λ k. nat_eq n k ≡ false) ns) → (nat_eq n m ≡ false) × AllByRecursion (λ k. nat_eq n k ≡ false) ns
    by_head true b q h again = absurd ((cc))
    by_head false b q h again = (flipped m n q, again h)

free_distinct : (ns taken : List ℕ) → AreFree taken ns → IsDistinct nat_eq ns
unfolding IsDistinct
free_distinct [] taken h = tt
free_distinct (n ∷ ns) taken h =
    (none_is n ns (free_apart ns (taken ++ n ∷ []) n h.1 (stands_right n taken (n ∷ []) (ap (λ b. b || false) (eq-eqb n n refl)))), free_distinct ns (taken ++ n ∷ []) h.1)

free_within : (ns taken : List ℕ) → AreFree taken ns → All (λ n. n ≤ 511) ns
free_within [] taken h = All-nil (λ n. n ≤ 511)
free_within (n ∷ ns) taken h = All-cons (λ m. m ≤ 511) n ns (leb-true n 511 (and_parts (nat_le n 511) (not (stands n taken)) h.0).0) (free_within ns (taken ++ n ∷ []) h.1)

pub archives_of_free : (ns : List ℕ) → AreFree [] ns → AreArchives ns
archives_of_free ns h = record { within = free_within ns [] h; distinct = free_distinct ns [] h }

-- DISTINCT NUMBERS ARE FREE

stands_none : (n : ℕ) (ns : List ℕ) → AllByRecursion (λ m. nat_eq n m ≡ false) ns → stands n ns ≡ false
stands_none n [] h = refl
stands_none n (m ∷ ns) h = ap₂ (λ a b. a || b) (flipped n m h.0) (stands_none n ns h.1)

-- what is taken stands not among them
abbrev AreNew : List ℕ → List ℕ → Type 0
AreNew taken ns = (n : ℕ) → stands n taken ≡ true → stands n ns ≡ false

distinct_free : (ns taken : List ℕ) → All (λ n. n ≤ 511) ns → IsDistinct nat_eq ns → AreNew taken ns → AreFree taken ns
distinct_free [] taken small apart new = tt
distinct_free (n ∷ ns) taken small apart new = (
  ap₂ (λ a b. a && not b) (le-leb n 511 (All-head (λ m. m ≤ 511) n ns small)) (not_taken (cases_Bool (stands n taken))),
  distinct_free ns (taken ++ n ∷ []) (All-tail (λ m. m ≤ 511) n ns small) (IsDistinct-tail nat_eq n ns apart) (λ m e. still_new m (cases_Bool (stands m taken)) e),
)
  where
    clash : (b : Bool) → b ≡ true → b ≡ false → ⊥
    clash b t f = cc

    first_of : (a b : Bool) → a || b ≡ false → a ≡ false
    first_of false b e = refl
    first_of true b e = e

    second_of : (a b : Bool) → a || b ≡ false → b ≡ false
    second_of false b e = e
    second_of true b e = absurd ((cc))

    not_taken : ((stands n taken ≡ true) ⊎ (stands n taken ≡ false)) → stands n taken ≡ false
    not_taken (inr e) = e
    not_taken (inl e) = absurd (clash (n == n) (eq-eqb n n refl) (first_of (n == n) (stands n ns) (new n e)))

    still_new : (m : ℕ) → ((stands m taken ≡ true) ⊎ (stands m taken ≡ false)) → stands m (taken ++ n ∷ []) ≡ true → stands m ns ≡ false
    still_new m (inl before) e = second_of (n == m) (stands m ns) (new m before)
    still_new m (inr none) e = by_number (cases_Bool (n == m))
      where
        by_number : ((n == m ≡ true) ⊎ (n == m ≡ false)) → stands m ns ≡ false
        by_number (inl q) = ap (λ k. stands k ns) (sym (eqb-true n m q)) ∙ stands_none n ns (IsDistinct-head nat_eq n ns apart)
        by_number (inr q) = absurd (clash (stands m (taken ++ n ∷ [])) e (list_any-append (λ k. k == m) taken (n ∷ []) ∙ ap₂ (λ a b. a || (b || false)) none q))

pub free_of_archives : (ns : List ℕ) → AreArchives ns → AreFree [] ns
free_of_archives ns a = distinct_free ns [] a.within a.distinct (λ n e. absurd ((cc)))
