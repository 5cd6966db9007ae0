-- Elements of rows.
use Rattle.std.proofs.Common.{◌≡◌, ◌≢◌, ℕ, zero, suc, ◌+◌, ◌<◌, ◌≤◌, ◌⊎◌, inl, inr, List, [], ◌∷◌, length, refl, ap, sym, ◌∙◌, arith, ⊎_elim, get_or, set}
use Rattle.std.specs.Prelude.{map, slice_get, Some, option_map}
use Rattle.std.proofs.lemmas.List.{length-map, length-set, map-set}
use Rattle.std.proofs.Math.Seq.{map-set_same}
use Rattle.std.proofs.lemmas.Option.{slice_get-map, slice_get_read, get_or_from_slice_get, same_Some}
use Rattle.pot_turn.specs.declared.view.View.{View}
use Rattle.pot_turn.specs.declared.name.TurnName.{TurnName}
use Rattle.pot_turn.specs.Views.{spent_view}
use Rattle.pot_rows.specs.Rows.{PassRow, AreOf, view_at, with_view}

-- what an element gives stands at its place in what all give
given_at : {A B : Type 0} (f : A → B) (xs : List A) (i : ℕ) (x : A) → i < length xs → x ≡ get_or xs i x → slice_get (map f xs) i ≡ Some (f x)
given_at f xs i x within is = slice_get-map f xs i ∙ ap (option_map f) (slice_get_read xs (length xs) i x refl within is)

-- of two rows with one list of names, the elements at one place have one name
pub one_name : {A B N : Type 0} (f : A → N) (h : B → N) (xs : List A) (ys : List B) (names names' : List N) (i : ℕ) (x : A) (y : B)
    → map f xs ≡ names → map h ys ≡ names' → names ≡ names' → i < length names' → x ≡ get_or xs i x → y ≡ get_or ys i y → f x ≡ h y
one_name f h xs ys names names' i x y fx hy same within is is' =
    let ylong : i < length ys = omega (arith, within, length-map ys h, ap length hy) in
    let xlong : i < length xs = omega (arith, within, length-map xs f, ap length fx, ap length same) in
    same_Some (f x) (h y) (sym (given_at f xs i x xlong is) ∙ (ap (λ w. slice_get w i) (fx ∙ (same ∙ sym hy)) ∙ given_at h ys i y ylong is'))

-- an element's name stands at its place among the names
pub named_at : {A N : Type 0} (f : A → N) (xs : List A) (names : List N) (i : ℕ) (x : A) → map f xs ≡ names → i < length names → x ≡ get_or xs i x → slice_get names i ≡ Some (f x)
named_at f xs names i x fx within is =
    let long : i < length xs = omega (arith, within, length-map xs f, ap length fx) in
    sym (ap (λ w. slice_get w i) fx) ∙ given_at f xs i x long is

module _ {P E O : Type 0} (name : P → TurnName) (know : P → View E O) where
  abbrev row_of : List P → PassRow E O
  row_of ps = record { names = map name ps; views = map know ps }

  pub row_long : (ps : List P) (row : PassRow E O) (names : List TurnName) (i : ℕ) → row_of ps ≡ row → row.names ≡ names → i < length names → i < length ps
  row_long ps row names i is same within = omega (arith, within, length-map ps name, ap length same, ap (λ r. length r.names) is)

  -- what a pass knows
  pub row_at : (ps : List P) (row : PassRow E O) (i : ℕ) (p : P) → row_of ps ≡ row → i < length ps → p ≡ get_or ps i p → know p ≡ view_at row i
  row_at ps row i p is within at =
      sym (get_or_from_slice_get (map know ps) i (know p) spent_view (given_at know ps i p within at)) ∙ ap (λ (r : PassRow E O). view_at r i) is

  -- one pass changed, and is of the same turn
  pub row_set : (ps : List P) (row : PassRow E O) (i : ℕ) (p q : P) (v : View E O) → row_of ps ≡ row → i < length ps → p ≡ get_or ps i p → name q ≡ name p → know q ≡ v
      → row_of (set ps i q) ≡ with_view row i v
  row_set ps row i p q v is within at same knows =
      let names : map name (set ps i q) ≡ map name ps = map-set_same name ps i q p (same ∙ ap name at) in
      let views : map know (set ps i q) ≡ set (map know ps) i v = map-set know ps i q ∙ ap (set (map know ps) i) knows in
      let here : row_of (set ps i q) ≡ with_view (row_of ps) i v = cc (names, views) in
      here ∙ ap (λ (r : PassRow E O). with_view r i v) is

get_set_same : {X : Type 0} (xs : List X) (i : ℕ) (x d : X) → i < length xs → get_or (set xs i x) i d ≡ x
get_set_same [] i x d lt = absurd (omega arith)
get_set_same (y ∷ xs) zero x d lt = refl
get_set_same (y ∷ xs) (suc i) x d lt = get_set_same xs i x d (omega arith)

get_set_other : {X : Type 0} (xs : List X) (i j : ℕ) (x d : X) → i ≢ j → get_or (set xs i x) j d ≡ get_or xs j d
get_set_other [] i j x d ne = refl
get_set_other (y ∷ xs) zero zero x d ne = absurd (ne refl)
get_set_other (y ∷ xs) zero (suc j) x d ne = refl
get_set_other (y ∷ xs) (suc i) zero x d ne = refl
get_set_other (y ∷ xs) (suc i) (suc j) x d ne = get_set_other xs i j x d (λ e. ne (ap suc e))

get_past : {X : Type 0} (xs : List X) (i : ℕ) (d : X) → length xs ≤ i → get_or xs i d ≡ d
get_past [] i d le = refl
get_past (x ∷ xs) zero d le = absurd (omega (arith, le))
get_past (x ∷ xs) (suc i) d le = get_past xs i d (omega (arith, le))

module _ {E O : Type 0} where
  pub at_set : (row : PassRow E O) (i : ℕ) (v : View E O) → i < length row.views → view_at (with_view row i v) i ≡ v
  at_set row i v lt = get_set_same row.views i v spent_view lt

  pub at_other : (row : PassRow E O) (i j : ℕ) (v : View E O) → i ≢ j → view_at (with_view row i v) j ≡ view_at row j
  at_other row i j v ne = get_set_other row.views i j v spent_view ne

  pub still_of : (names : List TurnName) (row : PassRow E O) (i : ℕ) (v : View E O) → AreOf names row → AreOf names (with_view row i v)
  still_of names row i v of = (of.0, length-set row.views i v ∙ of.1)

  -- past its last place a row has spent passes
  pub at_past : (names : List TurnName) (row : PassRow E O) (i : ℕ) → AreOf names row → length names ≤ i → view_at row i ≡ spent_view
  at_past names row i of le = get_past row.views i spent_view (omega (arith, of.1, le))

pub below_or_at : (n at : ℕ) → at < n + 1 → (at < n) ⊎ (n ≡ at)
below_or_at zero zero lt = inr refl
below_or_at zero (suc at) lt = absurd (omega (arith, lt))
below_or_at (suc n) zero lt = inl (omega arith)
below_or_at (suc n) (suc at) lt = ⊎_elim (λ (l : at < n). inl (omega (arith, l))) (λ (e : n ≡ at). inr (ap suc e)) (below_or_at n at (omega (arith, lt)))
