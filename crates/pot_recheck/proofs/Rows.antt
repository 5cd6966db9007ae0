-- Lists that grow by what there is at each of the numbers in a row.
use Rattle.std.proofs.Common.{◌≡◌, ◌<◌, ◌+◌, ◌++◌, inl, inr, ℕ, zero, suc, List, [], ◌∷◌, sym, ap, subst, ◌∙◌, arith, add-one, append_assoc, append-nil, flat_map}
use Rattle.std.specs.List.{range_with_len, Contains}
use Rattle.std.proofs.lemmas.Bool.{cases_eq}
use Rattle.std.proofs.lemmas.Grind.{flat_map-append}
use Rattle.std.proofs.lemmas.List.Elements.{Contains-append_cases, Contains-append_left, Contains-append_right}
use Rattle.pot_bytes.proofs.Elements.{none_contained}

range_append : (a m n : ℕ) → range_with_len a (m + n) ≡ range_with_len a m ++ range_with_len (a + m) n
range_append a zero n = ap (λ k. range_with_len a k) (let e : 0 + n ≡ n = omega arith in e) ∙ ap (λ b. range_with_len b n) (let e : a ≡ a + 0 = omega arith in e)
range_append a (suc m) n = ap (λ k. range_with_len a k) (let e : suc m + n ≡ suc (m + n) = omega arith in e) ∙ ap (λ l. a ∷ l) (range_append (a + 1) m n ∙ ap (λ b. range_with_len (a + 1) m ++ range_with_len b n) (let e : a + 1 + m ≡ a + suc m = omega arith in e))

range_more : (n : ℕ) → range_with_len 0 (n + 1) ≡ range_with_len 0 n ++ n ∷ []
range_more n = range_append 0 n 1 ∙ ap (λ k. range_with_len 0 n ++ k ∷ []) (let e : 0 + n ≡ n = omega arith in e)

module _ {X : Type 0} (f : ℕ → List X) where
  flat_more : (n : ℕ) → flat_map f (range_with_len 0 (n + 1)) ≡ flat_map f (range_with_len 0 n) ++ f n
  flat_more n = ap (flat_map f) (range_more n) ∙ flat_map-append f (range_with_len 0 n) (n ∷ []) ∙ ap (λ l. flat_map f (range_with_len 0 n) ++ l) (append-nil (f n))

  pub rows_begin : (old cur : List X) → cur ≡ old → cur ≡ old ++ flat_map f (range_with_len 0 0)
  rows_begin old cur e = e ∙ sym (append-nil old)

  pub rows_more : (n : ℕ) (old cur new x : List X) → cur ≡ old ++ flat_map f (range_with_len 0 n) → new ≡ cur ++ x → f n ≡ x → new ≡ old ++ flat_map f (range_with_len 0 (n + 1))
  rows_more n old cur new x e h q =
      h ∙ ap (λ l. l ++ x) e ∙ append_assoc old (flat_map f (range_with_len 0 n)) x ∙ ap (λ l. old ++ (flat_map f (range_with_len 0 n) ++ l)) (sym q) ∙ ap (λ l. old ++ l) (sym (flat_more n))

  pub rows_none : (n : ℕ) (old cur : List X) → cur ≡ old ++ flat_map f (range_with_len 0 n) → f n ≡ [] → cur ≡ old ++ flat_map f (range_with_len 0 (n + 1))
  rows_none n old cur e q = rows_more n old cur cur [] e (sym (append-nil cur)) q

  pub rows_end : (n m : ℕ) (old cur : List X) → cur ≡ old ++ flat_map f (range_with_len 0 n) → n ≡ m → cur ≡ old ++ flat_map f (range_with_len 0 m)
  rows_end n m old cur e q = e ∙ ap (λ k. old ++ flat_map f (range_with_len 0 k)) q

-- a list of its own
module _ {X : Type 0} (f : ℕ → List X) where
  pub own_more : (n : ℕ) (cur new : List X) → cur ≡ flat_map f (range_with_len 0 n) → new ≡ cur ++ f n → new ≡ flat_map f (range_with_len 0 (n + 1))
  own_more n cur new e h = h ∙ ap (λ l. l ++ f n) e ∙ sym (flat_more f n)

-- what is in it is there at one of the numbers
module _ {X : Type 0} (f : ℕ → List X) (x : X) where
  pub in_row : (n : ℕ) → Contains (flat_map f (range_with_len 0 n)) x → (k : ℕ) × (k < n) × Contains (f k) x
  in_row zero h = absurd (none_contained x h)
  in_row (suc n) h = elim (Contains-append_cases (flat_map f (range_with_len 0 n)) (f n) x (subst (λ l. Contains l x) (ap (λ k. flat_map f (range_with_len 0 k)) (sym (add-one n)) ∙ flat_more f n) h)) [
    | inl a ↦ (let r = in_row n a in (r.0, (let l = r.1 in omega (arith, l)), r.2))
    | inr b ↦ (n, omega arith, b)
  ]

  pub of_row : (n k : ℕ) → k < n → Contains (f k) x → Contains (flat_map f (range_with_len 0 n)) x
  of_row zero k l h = absurd (omega (arith, l))
  of_row (suc n) k l h = subst (λ m. Contains (flat_map f (range_with_len 0 m)) x) (add-one n) (subst (λ l. Contains l x) (sym (flat_more f n)) (elim (cases_eq k n) [
    | inl e ↦ Contains-append_right (flat_map f (range_with_len 0 n)) (f n) x (subst (λ j. Contains (f j) x) e h)
    | inr ne ↦ Contains-append_left (flat_map f (range_with_len 0 n)) (f n) x (of_row n k (omega (arith, l, ne)) h)
  ]))

-- four parts, one behind another
pub four_parts : {X : Type 0} (old a b c d one two three four : List X) → one ≡ old ++ a → two ≡ one ++ b → three ≡ two ++ c → four ≡ three ++ d → four ≡ old ++ (a ++ b ++ c ++ d)
four_parts old a b c d one two three four h1 h2 h3 h4 =
    h4 ∙ ap (λ l. l ++ d) (h3 ∙ ap (λ l. l ++ c) (h2 ∙ ap (λ l. l ++ b) h1 ∙ append_assoc old a b) ∙ append_assoc old (a ++ b) c) ∙ append_assoc old (a ++ b ++ c) d
