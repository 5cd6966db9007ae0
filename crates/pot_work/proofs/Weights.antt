-- Weights of the elements of a list.
use Rattle.std.proofs.Common.{◌≡◌, ◌≢◌, ◌⊎◌, inl, inr, ℕ, zero, suc, ◌+◌, ◌<◌, ◌≤◌, List, [], ◌∷◌, ◌++◌, length, set, sym, refl, ap, arith}
use Rattle.std.specs.Prelude.{Some, slice_get}
use Rattle.std.proofs.lemmas.Option.{same_Some}
use mathlib.Core.Option.{some, some-injective, some-ne-none}
use lib.ListN.{get_elem?}
use Rattle.pot_work.specs.Claims.{weigh}

module _ {X : Type 0} where
  pub weigh_append : (h : X → ℕ) (xs ys : List X) → weigh h (xs ++ ys) ≡ weigh h xs + weigh h ys
  weigh_append h [] ys = omega arith
  weigh_append h (x ∷ xs) ys = let e = weigh_append h xs ys in omega arith

  pub weigh_set : (f : X → ℕ) (vs : List X) (by : ℕ) (v w : X) → get_elem? vs by ≡ some v → weigh f (set vs by w) + f v ≡ weigh f vs + f w
  weigh_set f [] by v w at = absurd (some-ne-none v (sym at))
  weigh_set f (x ∷ xs) zero v w at = let e = ap f (some-injective x v at) in omega arith
  weigh_set f (x ∷ xs) (suc by) v w at = let e = weigh_set f xs by v w at in omega arith

  pub least : (f : X → ℕ) (vs : List X) (by : ℕ) (v : X) → get_elem? vs by ≡ some v → f v ≤ weigh f vs
  least f [] by v at = absurd (some-ne-none v (sym at))
  least f (x ∷ xs) zero v at = let e = ap f (some-injective x v at) in omega arith
  least f (x ∷ xs) (suc by) v at = let e = least f xs by v at in omega arith

  pub least_two : (f : X → ℕ) (vs : List X) (by j : ℕ) (v u : X) → get_elem? vs by ≡ some v → get_elem? vs j ≡ some u → j ≢ by → f v + f u ≤ weigh f vs
  least_two f [] by j v u at at' other = absurd (some-ne-none v (sym at))
  least_two f (x ∷ xs) zero zero v u at at' other = absurd (other refl)
  least_two f (x ∷ xs) zero (suc j) v u at at' other = let e = ap f (some-injective x v at) in let l = least f xs j u at' in omega arith
  least_two f (x ∷ xs) (suc by) zero v u at at' other = let e = ap f (some-injective x u at') in let l = least f xs by v at in omega arith
  least_two f (x ∷ xs) (suc by) (suc j) v u at at' other = let e = least_two f xs by j v u at at' (λ s. other (ap suc s)) in omega arith

  module _ (f g : X → ℕ) where
    -- what weighs nothing by one weighs nothing by the other
    abbrev LightToo : List X → Type 0
    LightToo vs = (j : ℕ) (u : X) → get_elem? vs j ≡ some u → f u ≡ 0 → g u ≡ 0

    light : (vs : List X) → LightToo vs → weigh f vs ≡ 0 → weigh g vs ≡ 0
    light [] too none = refl
    light (x ∷ xs) too none =
        let a : f x ≡ 0 = omega (arith, none) in
        let b : weigh f xs ≡ 0 = omega (arith, none) in
        let c = too 0 x refl a in
        let d = light xs (λ j. too (suc j)) b in
        omega arith

    -- where one element has all the weight of the one, it has all of the other
    pub only : (vs : List X) (by : ℕ) (v : X) → get_elem? vs by ≡ some v → LightToo vs → weigh f vs ≡ f v → weigh g vs ≡ g v
    only [] by v at too all = absurd (some-ne-none v (sym at))
    only (x ∷ xs) zero v at too all =
        let e = ap f (some-injective x v at) in
        let e' = ap g (some-injective x v at) in
        let none : weigh f xs ≡ 0 = omega (arith, e, all) in
        let rest = light xs (λ j. too (suc j)) none in
        omega arith
    only (x ∷ xs) (suc by) v at too all =
        let l = least f xs by v at in
        let none : f x ≡ 0 = omega (arith, l, all) in
        let all_rest : weigh f xs ≡ f v = omega (arith, none, all) in
        let a = too 0 x refl none in
        let b = only xs by v at (λ j. too (suc j)) all_rest in
        omega arith

  -- elements of a list that one more stands behind
  pub get_front : (xs ys : List X) (k : ℕ) (x : X) → slice_get xs k ≡ Some x → slice_get (xs ++ ys) k ≡ Some x
  get_front [] ys k x at = absurd (cc at)
  get_front (y ∷ xs) ys zero x at = at
  get_front (y ∷ xs) ys (suc k) x at = get_front xs ys k x at

  pub get_last : (xs : List X) (x : X) → slice_get (xs ++ x ∷ []) (length xs) ≡ Some x
  get_last [] x = refl
  get_last (y ∷ xs) x = get_last xs x

  -- an element put in place of another
  pub get_set_here : (xs : List X) (k : ℕ) (x : X) → k < length xs → slice_get (set xs k x) k ≡ Some x
  get_set_here [] k x lt = absurd (omega (arith, lt))
  get_set_here (y ∷ xs) zero x lt = refl
  get_set_here (y ∷ xs) (suc k) x lt = get_set_here xs k x (omega (arith, lt))

  pub get_set_else : (xs : List X) (k j : ℕ) (x : X) → j ≢ k → slice_get (set xs k x) j ≡ slice_get xs j
  get_set_else [] k j x other = refl
  get_set_else (y ∷ xs) zero zero x other = absurd (other refl)
  get_set_else (y ∷ xs) zero (suc j) x other = refl
  get_set_else (y ∷ xs) (suc k) zero x other = refl
  get_set_else (y ∷ xs) (suc k) (suc j) x other = get_set_else xs k j x (λ e. other (ap suc e))

  pub set_long : (xs : List X) (k : ℕ) (x : X) → length (set xs k x) ≡ length xs
  set_long [] k x = refl
  set_long (y ∷ xs) zero x = refl
  set_long (y ∷ xs) (suc k) x = ap suc (set_long xs k x)

  pub get_middle : (xs ys : List X) (y : X) → slice_get (xs ++ y ∷ ys) (length xs) ≡ Some y
  get_middle [] ys y = refl
  get_middle (x ∷ xs) ys y = get_middle xs ys y

  -- an element of a list that one more stands behind is one of the list or the last
  pub get_either : (xs : List X) (y : X) (k : ℕ) (x : X) → slice_get (xs ++ y ∷ []) k ≡ Some x → (slice_get xs k ≡ Some x) ⊎ (y ≡ x)
  get_either [] y zero x at = inr (same_Some y x at)
  get_either [] y (suc k) x at = absurd (cc at)
  get_either (z ∷ xs) y zero x at = inl at
  get_either (z ∷ xs) y (suc k) x at = get_either xs y k x at
