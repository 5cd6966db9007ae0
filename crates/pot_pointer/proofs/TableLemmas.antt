-- A sorted table of the named names stands for the names, strictly in order.
use Rattle.std.proofs.Common.{◌≡◌, ◌≢◌, ℕ, zero, suc, ◌+◌, ◌<◌, inl, inr, Bool, false, cond, List, [], ◌∷◌, map, length, get_or, refl, sym, ap, ◌∙◌, arith, eqb, IsPermutation, IsSorted, Ordering, Less, Equal, Greater, is_lt, nat_cmp, true≢false}
use Rattle.std.proofs.lemmas.List.{length-map}
use Rattle.std.proofs.Math.Path.{ap₂}
use Rattle.std.specs.Prelude.{AllPairs}
use Rattle.std.specs.List.{sum_by, enumerate_from}
use Rattle.std.specs.Ordering.{ordering_then}
use Rattle.std.specs.List.{IsDistinct}
use Rattle.std.proofs.lemmas.Bool.{cases_order, ne_eqb, eq-eqb, eqb-false, lt-ltb, le-ltb}
use Rattle.std.proofs.lemmas.Bool.Decides.{nat_tests}
use Rattle.std.proofs.lemmas.Cmp.{then_total, on_total, nat_cmp_total}
use Rattle.std.proofs.lemmas.List.FromFn.{fill_by_all, length-enumerate_from}
use Rattle.std.proofs.lemmas.List.Sorted.{length_permutation, sum_by-IsPermutation, sorted_far, ranks_by}
use Rattle.std.proofs.lemmas.List.Sums.{sum_by-cons}
use Rattle.std.proofs.lemmas.Map.Keys.{IsDistinct-IsPermutation, IsDistinct-from_apart, apart_from_distinct}
use Rattle.pot_pointer.specs.declared.Named.{Named}
use Rattle.pot_pointer.specs.Pointers.{named_at, named, IsBefore}
use Rattle.pot_pointer.specs.Inside.{name_at, names_of}

abbrev counted : ℕ → Named → ℕ
counted position entry = cond (eqb entry.position position) entry.name 0

counted_there : (position : ℕ) (entry : Named) → entry.position ≡ position → counted position entry ≡ entry.name
counted_there position entry there = ap (λ b. cond b entry.name 0) (eq-eqb entry.position position there)

counted_elsewhere : (position : ℕ) (entry : Named) → entry.position ≢ position → counted position entry ≡ 0
counted_elsewhere position entry elsewhere = ap (λ b. cond b entry.name 0) (ne_eqb entry.position position elsewhere)

-- no name stands before the first position
none_before : (names : List ℕ) (first position : ℕ) → position < first
    → sum_by (counted position) (map named_at (enumerate_from first names)) ≡ 0
none_before [] first position before = refl
none_before (name ∷ names) first position before =
    sum_by-cons (counted position) (named_at (first, name)) (map named_at (enumerate_from (first + 1) names))
    ∙ ap₂ ◌+◌ (counted_elsewhere position (named_at (first, name)) (omega arith)) (none_before names (first + 1) position (omega arith))

-- one name stands at each position
one_at : (names : List ℕ) (first k position : ℕ) → k < length names → position ≡ first + k
    → sum_by (counted position) (map named_at (enumerate_from first names)) ≡ get_or names k 0
one_at [] first k position within is = absurd (omega arith)
one_at (name ∷ names) first zero position within is =
    sum_by-cons (counted position) (named_at (first, name)) (map named_at (enumerate_from (first + 1) names))
    ∙ ap₂ ◌+◌ (counted_there position (named_at (first, name)) (omega arith)) (none_before names (first + 1) position (omega arith))
    ∙ omega arith
one_at (name ∷ names) first (suc k) position within is =
    sum_by-cons (counted position) (named_at (first, name)) (map named_at (enumerate_from (first + 1) names))
    ∙ ap₂ ◌+◌ (counted_elsewhere position (named_at (first, name)) (omega arith))
    (one_at names (first + 1) k position (omega arith) (omega arith))
    ∙ omega arith

pub length-named : (names : List ℕ) → length (named names) ≡ length names
length-named names = length-map (enumerate_from 0 names) named_at ∙ length-enumerate_from 0 names

-- the table stands for the names that it was made of
pub names_of-IsPermutation : (names : List ℕ) (table : List Named) → IsPermutation (named names) table → names_of table ≡ names
names_of-IsPermutation names table same =
    let all : length table ≡ length names = length_permutation (named names) table same ∙ length-named names in
    sym (fill_by_all (name_at table) names (length table) 0 (sym all)
    (λ k within. sym (sum_by-IsPermutation (counted k) (named names) table same ∙ one_at names 0 k k (omega arith) (omega arith))))

-- the entry at a position
pub entry_at : (names : List ℕ) (first k : ℕ) (d : Named) → k < length names
    → get_or (map named_at (enumerate_from first names)) k d ≡ named_at (first + k, get_or names k 0)
entry_at [] first k d within = absurd (omega arith)
entry_at (name ∷ names) first zero d within = ap (λ p. named_at (p, name)) (omega arith)
entry_at (name ∷ names) first (suc k) d within =
    entry_at names (first + 1) k d (omega arith) ∙ ap (λ p. named_at (p, get_or names k 0)) (omega arith)

abbrev same_position : Named → Named → Bool
same_position a b = eqb a.position b.position

eqb_turns : (m n : ℕ) → eqb m n ≡ eqb n m
eqb_turns m n = grind (arith, nat_tests)

-- no two entries have one position
positions_differ : (names : List ℕ) (table : List Named) → IsPermutation (named names) table → IsDistinct same_position table
positions_differ names table same =
    IsDistinct-IsPermutation same_position (λ a b. eqb_turns a.position b.position) (named names) table same
    (IsDistinct-from_apart same_position (named names) (λ i j d i_lt_j within.
    let at_i = ap (λ (e : Named). e.position) (entry_at names 0 i d (omega (arith, length-named names))) in
    let at_j = ap (λ (e : Named). e.position) (entry_at names 0 j d (omega (arith, length-named names))) in
    ne_eqb (get_or (named names) i d).position (get_or (named names) j d).position (λ tied. omega (arith, at_i, at_j))))

abbrev by_name_and_position : Named → Named → Ordering
by_name_and_position a b = ordering_then (nat_cmp a.name b.name) (nat_cmp a.position b.position)

nat_cmp_less : (m n : ℕ) → m < n → nat_cmp m n ≡ Less
nat_cmp_less m n less = ap (λ t. cond t Less (cond (eqb m n) Equal Greater)) (lt-ltb m n less)

nat_cmp_equal : (m n : ℕ) → m ≡ n → nat_cmp m n ≡ Equal
nat_cmp_equal m n same =
    ap (λ t. cond t Less (cond (eqb m n) Equal Greater)) (le-ltb m n (omega arith)) ∙ ap (λ t. cond t Equal Greater) (eq-eqb m n same)

before_from_sorted : (a b : Named) → is_lt (by_name_and_position b a) ≡ false → a.position ≢ b.position → IsBefore a b
before_from_sorted a b not_less apart =
    let then_positions : Ordering → Ordering = λ o. ordering_then o (nat_cmp b.position a.position) in
    elim (cases_order a.name b.name) [
      | inl same ↦
          elim (cases_order a.position b.position) [
            | inl tied ↦ absurd (apart tied)
            | inr strict ↦
                elim strict [
                  | inl less ↦ inr (same, less)
                  | inr more ↦
                      let equal = ap (λ o. is_lt (then_positions o)) (nat_cmp_equal b.name a.name (sym same)) in
                      absurd (true≢false (sym (equal ∙ ap is_lt (nat_cmp_less b.position a.position more)) ∙ not_less))
                ]
          ]
      | inr strict ↦
          elim strict [
            | inl less ↦ inl less
            | inr more ↦ absurd (true≢false (sym (ap (λ o. is_lt (then_positions o)) (nat_cmp_less b.name a.name more)) ∙ not_less))
          ]
    ]

-- what a sort leaves is strictly in order
pub order_from_sort : (names : List ℕ) (table : List Named) → IsPermutation (named names) table
    → IsSorted by_name_and_position table → AllPairs IsBefore table
order_from_sort names table same sorted i j d i_lt_j within =
    let order = then_total (on_total (λ (p : Named). p.name) nat_cmp_total) (on_total (λ (p : Named). p.position) nat_cmp_total) in
    let not_less = sorted_far (λ x y. is_lt (by_name_and_position x y)) (ranks_by order (λ x. x)) table sorted i j d (omega arith) within in
    let apart = apart_from_distinct same_position table i j d (positions_differ names table same) i_lt_j within in
    before_from_sorted (get_or table i d) (get_or table j d) not_less (eqb-false _ _ apart)
