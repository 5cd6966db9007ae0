-- Two lists of tables of one length, element by element.
use Rattle.std.proofs.Common.{◌≡◌, ◌<◌, ◌+◌, ◌⊎◌, ◌++◌, inl, inr, ℕ, zero, suc, List, [], ◌∷◌, length, take, get_or, map, flat_map, refl, sym, ap, ap₂, subst, ◌∙◌, arith}
use Rattle.std.specs.Prelude.{Some, slice_get}
use Rattle.std.proofs.lemmas.List.{take_more, length-append, length-take-le}
use Rattle.pot_machine.specs.Table.{Table}
use Rattle.pot_recheck.specs.declared.listing.Unsound.{Unsound}
use Rattle.pot_recheck.specs.Finding.{IsFoundTable, AreFoundTables}

-- an element of a list with one more: one of before, or the last
pub last_or_before : {X : Type 0} (xs : List X) (y x : X) (g : ℕ) → slice_get (xs ++ y ∷ []) g ≡ Some x → ((g < length xs) × (slice_get xs g ≡ Some x)) ⊎ ((g ≡ length xs) × (y ≡ x))
last_or_before [] y x zero h = inr (refl, cc)
last_or_before [] y x (suc g) h = absurd (cc)
last_or_before (z ∷ xs) y x zero h = inl (omega arith, h)
last_or_before (z ∷ xs) y x (suc g) h = elim (last_or_before xs y x g h) [
  | inl b ↦ inl ((let l = b.0 in omega (arith, l)), b.1)
  | inr e ↦ inr (ap suc e.0, e.1)
]

-- one more table
pub tables_more : (found : List Unsound) (old new : List Table) (i : ℕ) (x u : Table) → i < length old → x ≡ get_or old i x → AreFoundTables found (take i old) new → IsFoundTable found i x u
    → AreFoundTables found (take (i + 1) old) (new ++ u ∷ [])
tables_more found old new i x u l q are is =
    subst (λ ts. AreFoundTables found ts (new ++ u ∷ [])) (sym (take_more old i x l ∙ ap (λ y. take i old ++ y ∷ []) (sym q)))
    (record {
      count = length-append new (u ∷ []) ∙ ap (λ n. n + 1) are.count ∙ sym (length-append (take i old) (x ∷ []));
      each = λ g t w ht hw. elim (last_or_before (take i old) x t g ht) [
        | inl a ↦ elim (last_or_before new u w g hw) [
          | inl b ↦ are.each g t w a.1 b.1
          | inr b ↦ (let m = a.0 in let n = b.0 in let k = are.count in absurd (omega (arith, m, n, k)))
        ]
        | inr a ↦ elim (last_or_before new u w g hw) [
          | inl b ↦ (let m = a.0 in let n = b.0 in let k = are.count in absurd (omega (arith, m, n, k)))
          | inr b ↦ (let e : i ≡ g = (let m = a.0 in let k = length-take-le i old (omega (arith, l)) in omega (arith, m, k)) in
              subst (λ n. IsFoundTable found n t w) e (subst (λ (y : Table). IsFoundTable found i y w) a.1 (subst (λ (y : Table). IsFoundTable found i x y) b.1 is)))
        ]
      ];
    })

-- none
pub no_tables : (found : List Unsound) → AreFoundTables found [] []
no_tables found = record { count = refl; each = λ g t w ht hw. absurd (cc) }

-- what is one of each two tables is one of all
pub same_flat : {X : Type 0} (f : Table → List X) (ts us : List Table) → length us ≡ length ts → ((g : ℕ) (t u : Table) → slice_get ts g ≡ Some t → slice_get us g ≡ Some u → f u ≡ f t) → flat_map f us ≡ flat_map f ts
same_flat f [] [] e each = refl
same_flat f [] (u ∷ us) e each = absurd (omega (arith, e))
same_flat f (t ∷ ts) [] e each = absurd (omega (arith, e))
same_flat f (t ∷ ts) (u ∷ us) e each = ap₂ (λ x y. x ++ y) (each 0 t u refl refl) (same_flat f ts us (omega (arith, e)) (λ g x y hx hy. each (suc g) x y hx hy))

-- and so are lengths
pub same_length : {X : Type 0} (f : Table → List X) (ts us : List Table) → length us ≡ length ts → ((g : ℕ) (t u : Table) → slice_get ts g ≡ Some t → slice_get us g ≡ Some u → length (f u) ≡ length (f t))
    → length (flat_map f us) ≡ length (flat_map f ts)
same_length f [] [] e each = refl
same_length f [] (u ∷ us) e each = absurd (omega (arith, e))
same_length f (t ∷ ts) [] e each = absurd (omega (arith, e))
same_length f (t ∷ ts) (u ∷ us) e each =
    length-append (f u) (flat_map f us) ∙ ap₂ (λ x y. x + y) (each 0 t u refl refl) (same_length f ts us (omega (arith, e)) (λ g x y hx hy. each (suc g) x y hx hy)) ∙ sym (length-append (f t) (flat_map f ts))

-- so are lists whose elements are one
pub same_tables : (f : Table → Table) (ts us : List Table) → length us ≡ length ts → ((g : ℕ) (t u : Table) → slice_get ts g ≡ Some t → slice_get us g ≡ Some u → u ≡ f t) → us ≡ map f ts
same_tables f [] [] e each = refl
same_tables f [] (u ∷ us) e each = absurd (omega (arith, e))
same_tables f (t ∷ ts) [] e each = absurd (omega (arith, e))
same_tables f (t ∷ ts) (u ∷ us) e each = ap₂ (λ x y. x ∷ y) (each 0 t u refl refl) (same_tables f ts us (omega (arith, e)) (λ g x y hx hy. each (suc g) x y hx hy))

-- so are the lists, where each two elements are
pub same_lists : (ts us : List Table) → length us ≡ length ts → ((g : ℕ) (t u : Table) → slice_get ts g ≡ Some t → slice_get us g ≡ Some u → u ≡ t) → us ≡ ts
same_lists [] [] e each = refl
same_lists [] (u ∷ us) e each = absurd (omega (arith, e))
same_lists (t ∷ ts) [] e each = absurd (omega (arith, e))
same_lists (t ∷ ts) (u ∷ us) e each = ap₂ (λ x y. x ∷ y) (each 0 t u refl refl) (same_lists ts us (omega (arith, e)) (λ g x y hx hy. each (suc g) x y hx hy))
