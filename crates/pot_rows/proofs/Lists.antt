-- Elements of lists that are walked from the front.
use Rattle.std.proofs.Common.{◌≡◌, ℕ, zero, suc, ◌<◌, List, [], ◌∷◌, ◌++◌, length, take, drop, refl, ap, arith, get_or}
use Rattle.std.specs.Prelude.{slice_get, Some}
use Rattle.std.proofs.lemmas.Option.{same_Some}

module _ {X : Type 0} where
  -- what stands first behind so many elements
  pub drop_next : (xs : List X) (n : ℕ) (y : X) (ys : List X) → drop n xs ≡ y ∷ ys → (slice_get xs n ≡ Some y) × (drop (suc n) xs ≡ ys)
  drop_next [] zero y ys e = absurd (cc e)
  drop_next [] (suc n) y ys e = absurd (cc e)
  drop_next (x ∷ xs) zero y ys e = (cc e, cc e)
  drop_next (x ∷ xs) (suc n) y ys e = drop_next xs n y ys e

  pub take_next : (xs : List X) (n : ℕ) (x : X) → slice_get xs n ≡ Some x → take (suc n) xs ≡ take n xs ++ x ∷ []
  take_next [] zero x e = absurd (cc e)
  take_next [] (suc n) x e = absurd (cc e)
  take_next (y ∷ xs) zero x e = ap (λ z. z ∷ []) (same_Some y x e)
  take_next (y ∷ xs) (suc n) x e = ap (λ zs. y ∷ zs) (take_next xs n x e)

  pub get_or_front : (xs ys : List X) (i : ℕ) (d : X) → i < length xs → get_or (xs ++ ys) i d ≡ get_or xs i d
  get_or_front [] ys i d lt = absurd (omega (arith, lt))
  get_or_front (x ∷ xs) ys zero d lt = refl
  get_or_front (x ∷ xs) ys (suc i) d lt = get_or_front xs ys i d (omega (arith, lt))

  pub get_or_last : (xs : List X) (y d : X) → get_or (xs ++ y ∷ []) (length xs) d ≡ y
  get_or_last [] y d = refl
  get_or_last (x ∷ xs) y d = get_or_last xs y d

  -- where two lists with a last element are equal, so are both parts
  pub snoc_same : (xs ys : List X) (x y : X) → xs ++ x ∷ [] ≡ ys ++ y ∷ [] → (xs ≡ ys) × (x ≡ y)
  snoc_same [] [] x y e = (refl, cc e)
  snoc_same [] (b ∷ []) x y e = absurd (cc e)
  snoc_same [] (b ∷ c ∷ ys) x y e = absurd (cc e)
  snoc_same (a ∷ []) [] x y e = absurd (cc e)
  snoc_same (a ∷ c ∷ xs) [] x y e = absurd (cc e)
  snoc_same (a ∷ xs) (b ∷ ys) x y e =
      let heads : a ≡ b = cc e in
      let rest = snoc_same xs ys x y (cc e) in
      (cc (heads, rest.0), rest.1)
