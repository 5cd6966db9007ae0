-- Sums over a list, where amounts change and where they move.
use Rattle.std.proofs.Common.{◌≡◌, ◌≢◌, ℕ, zero, suc, ◌+◌, ◌≤◌, List, [], ◌∷◌, ◌++◌, set, sym, refl, ap, arith}
use mathlib.Core.Option.{some, some-injective, some-ne-none}
use lib.ListN.{get_elem?}
use Rattle.pot_turn.specs.Rules.{total}

module _ {V : Type 0} (f : V → ℕ) where
  -- where one member changes, the sum changes by as much
  pub total-set : (views : List V) (k : ℕ) (v w : V) → get_elem? views k ≡ some v → total f (set views k w) + f v ≡ total f views + f w
  total-set [] k v w e = absurd (some-ne-none v (sym e))
  total-set (x ∷ xs) zero v w e = let same = ap f (some-injective x v e) in omega (arith, same)
  total-set (x ∷ xs) (suc k) v w e = let rest = total-set xs k v w e in omega (arith, rest)

  pub total-snoc : (views : List V) (w : V) → total f (views ++ w ∷ []) ≡ total f views + f w
  total-snoc [] w = omega arith
  total-snoc (x ∷ xs) w = let rest = total-snoc xs w in omega (arith, rest)

  pub total-same : (views : List V) (k : ℕ) (v w : V) → get_elem? views k ≡ some v → f w ≡ f v → total f (set views k w) ≡ total f views
  total-same views k v w e same = let changed = total-set views k v w e in omega (arith, changed, same)

  -- no member has more than the sum
  pub total_at : (views : List V) (k : ℕ) (v : V) → get_elem? views k ≡ some v → f v ≤ total f views
  total_at [] k v e = absurd (some-ne-none v (sym e))
  total_at (x ∷ xs) zero v e = let same = ap f (some-injective x v e) in omega (arith, same)
  total_at (x ∷ xs) (suc k) v e = let rest = total_at xs k v e in omega (arith, rest)

  pub total_two : (views : List V) (j k : ℕ) (u v : V) → j ≢ k → get_elem? views j ≡ some u → get_elem? views k ≡ some v → f u + f v ≤ total f views
  total_two [] j k u v ne e d = absurd (some-ne-none v (sym d))
  total_two (x ∷ xs) zero zero u v ne e d = absurd (ne refl)
  total_two (x ∷ xs) zero (suc k) u v ne e d = let same = ap f (some-injective x u e) in let rest = total_at xs k v d in omega (arith, same, rest)
  total_two (x ∷ xs) (suc j) zero u v ne e d = let same = ap f (some-injective x v d) in let rest = total_at xs j u e in omega (arith, same, rest)
  total_two (x ∷ xs) (suc j) (suc k) u v ne e d = let rest = total_two xs j k u v (λ h. ne (ap suc h)) e d in omega (arith, rest)

  pub total_none : (views : List V) → ((k : ℕ) (v : V) → get_elem? views k ≡ some v → f v ≡ 0) → total f views ≡ 0
  total_none [] h = refl
  total_none (x ∷ xs) h = let first = h 0 x refl in let rest = total_none xs (λ k v e. h (suc k) v e) in omega (arith, first, rest)

  -- The law of amounts: where an amount goes from one member to another, or to a new one, the sum
  -- stays
  pub record SumStays (views : List V) : Type 0 where
    pub to_another : (j k : ℕ) (u w u' w' : V) → get_elem? views j ≡ some u → get_elem? (set views j u') k ≡ some w → f u' + f w' ≡ f u + f w → total f (set (set views j u') k w') ≡ total f views
    pub to_new : (j : ℕ) (u u' w : V) → get_elem? views j ≡ some u → f u' + f w ≡ f u → total f (set views j u' ++ w ∷ []) ≡ total f views

  pub sum_stays : (views : List V) → SumStays views
  sum_stays views = record {
    to_another = λ j k u w u' w' here there e.
        let one = total-set views j u u' here in
        let two = total-set (set views j u') k w w' there in
        omega (arith, one, two, e);
    to_new = λ j u u' w here e.
        let one = total-set views j u u' here in
        let two = total-snoc (set views j u') w in
        omega (arith, one, two, e);
  }
