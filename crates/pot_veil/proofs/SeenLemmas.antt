-- Ascending points are distinct bytes other than 0.
use Rattle.std.proofs.Common.{◌+◌, ◌-◌, ◌≤◌, ◌≡◌, ◌<◌, inl, inr, ℕ, suc, List, [], ◌∷◌, length, get_or, nat_eq, false, sym, subst, arith, lit<, zero}
use Rattle.std.specs.List.{All, AllByRecursion, IsDistinct}
use Rattle.std.proofs.lemmas.Bool.{cases_lt}
use Rattle.std.proofs.lemmas.Bool.Decides.{nat_tests}
use Rattle.std.proofs.lemmas.List.Elements.{All-from_get_or}
use Rattle.std.proofs.lemmas.Map.Keys.{IsDistinct-cons}
use Rattle.pot_bytes.specs.Lists.{AreBytes}
use Rattle.pot_gf.proofs.Values.{get_or-end}
use Rattle.pot_split.specs.Threshold.{AreNonzero}
use Rattle.pot_veil.specs.Seen.{AreSeen}

differ : (a b : ℕ) → a < b → nat_eq a b ≡ false
differ a b lt = grind (arith, nat_tests)

none_is : (a : ℕ) (xs : List ℕ) → ((i : ℕ) → i < length xs → a < get_or xs i 0) → AllByRecursion (λ b. nat_eq a b ≡ false) xs
none_is a [] h = tt
none_is a (b ∷ xs) h = (differ a b (h 0 (omega arith)), none_is a xs (λ i lt. h (suc i) (omega arith)))

apart : (xs : List ℕ) → ((i k : ℕ) → i < k → k < length xs → get_or xs i 0 < get_or xs k 0) → IsDistinct nat_eq xs
unfolding IsDistinct
apart [] h = tt
apart (a ∷ xs) h =
    IsDistinct-cons nat_eq a xs (none_is a xs (λ i lt. h 0 (suc i) (omega arith) (omega arith)))
    (apart xs (λ i k lt within. h (suc i) (suc k) (omega arith) (omega arith)))

pub seen_distinct : (n : ℕ) (seen : List ℕ) → AreSeen n seen → IsDistinct nat_eq seen
seen_distinct n seen s = apart seen s.ascending

pub seen_points : (n : ℕ) (seen : List ℕ) → AreSeen n seen → AreNonzero seen
seen_points n seen s i lt = let b = s.each i lt in omega (arith, b.0)

pub seen_some : (n : ℕ) (seen : List ℕ) → AreSeen n seen → All (λ x. 0 < x) seen
seen_some n seen s = All-from_get_or (λ (x : ℕ). 0 < x) seen 0 (seen_points n seen s)

pub seen_bytes : (n : ℕ) (seen : List ℕ) → n < 256 → AreSeen n seen → AreBytes seen
seen_bytes n seen few s k = elim (cases_lt k (length seen)) [
  | inl inside ↦ (let b = s.each k inside in omega (arith, b.1))
  | inr behind ↦ subst (λ (z : ℕ). z < 256) (sym (get_or-end seen k behind)) (lit< tt)
]

at_least : (n : ℕ) (seen : List ℕ) (k : ℕ) → AreSeen n seen → k < length seen → k + 1 ≤ get_or seen k 0
at_least n seen zero s lt = (s.each 0 lt).0
at_least n seen (suc k) s lt =
    let before = at_least n seen k s (omega arith) in
    omega (arith, before, s.ascending k (suc k) (omega arith) lt)

-- there are no more of them than points
pub seen_few : (n : ℕ) (seen : List ℕ) → AreSeen n seen → length seen ≤ n
seen_few n seen s = elim (cases_lt 0 (length seen)) [
  | inl some ↦
      (let k : ℕ = length seen - 1 in
      let last = at_least n seen k s (omega arith) in
      omega (arith, last, (s.each k (omega arith)).1))
  | inr none ↦ omega arith
]
