-- How the stamps of places say which places stand in a list.
use Rattle.std.proofs.Common.{zero, suc, replicate, ◌≡◌, ◌⊎◌, inl, inr, ◌<◌, ◌≤◌, ℕ, ◌+◌, ◌*◌, ◌==◌, ◌&&◌, ◌||◌, Bool, true, false, not, List, [], ◌∷◌, ◌++◌, length, get_or, set, ap, ap₂, sym, ◌∙◌, refl, arith, eq-eqb, length-set}
use Rattle.std.specs.List.{list_any}
use Rattle.std.proofs.lemmas.List.{get_or-set_same, get_or-set_other}
use Rattle.std.proofs.lemmas.List.Folds.{list_any-append}
use Rattle.std.proofs.lemmas.Bool.{eqb-true, cases_Bool, and_parts, ne_eqb}
use Rattle.pot_bytes.specs.declared.rack.Place.{Place}
use Rattle.pot_bytes.specs.declared.rack.Rack.{Rack}
use Rattle.pot_machine.proofs.Places.{place_same, place_below}
use Rattle.pot_image.specs.Records.{is_at, is_apart}
use Rattle.pot_image.specs.Marks.{spot, AreStamps, HaveMarks}

-- two places have one stamp only where they are the same
same_spot : (rack : Rack) (g c s h d r : ℕ) → c < rack.columns → d < rack.columns → s < rack.stripes → r < rack.stripes → spot rack g c s ≡ spot rack h d r → (g ≡ h) × (c ≡ d) × (s ≡ r)
same_spot rack g c s h d r lc ld ls lr e =
    let rows = place_same rack.columns (g * rack.stripes + s) c (h * rack.stripes + r) d lc ld e in
    let groups = place_same rack.stripes g s h r ls lr rows.0 in
    (groups.0, rows.1, groups.1)

pub spot_below : (rack : Rack) (g c s : ℕ) → g < rack.groups → c < rack.columns → s < rack.stripes → spot rack g c s < rack.groups * rack.stripes * rack.columns
spot_below rack g c s lg lc ls = place_below rack.columns (rack.groups * rack.stripes) (g * rack.stripes + s) c (place_below rack.stripes rack.groups g s lg ls) lc

pub at_same : (g c s : ℕ) (p : Place) → is_at g c s p ≡ true → (p.group ≡ g) × (p.column ≡ c) × (p.stripe ≡ s)
at_same g c s p e =
    let a = and_parts (p.group == g) ((p.column == c) && (p.stripe == s)) e in
    let b = and_parts (p.column == c) (p.stripe == s) a.1 in
    (eqb-true _ _ a.0, eqb-true _ _ b.0, eqb-true _ _ b.1)

same_at : (g c s : ℕ) (p : Place) → p.group ≡ g → p.column ≡ c → p.stripe ≡ s → is_at g c s p ≡ true
same_at g c s p a b d = ap₂ (λ x y. x && y) (eq-eqb _ _ a) (ap₂ (λ x y. x && y) (eq-eqb _ _ b) (eq-eqb _ _ d))

more_apart : (before : List Place) (p : Place) (g c s : ℕ) (b : Bool) → is_at g c s p ≡ b → is_apart (before ++ p ∷ []) g c s ≡ not (list_any (is_at g c s) before || b)
more_apart before p g c s b e = ap not (list_any-append (is_at g c s) before (p ∷ []) ∙ ap (λ v. list_any (is_at g c s) before || v) (plain (is_at g c s p) ∙ e))
  where
    plain : (v : Bool) → v || false ≡ v
    plain true = refl
    plain false = refl

module _ (rack : Rack) (stamps : List ℕ) (last : ℕ) (p : Place) (lg : p.group < rack.groups) (lc : p.column < rack.columns) (ls : p.stripe < rack.stripes) where
  at : ℕ
  at = spot rack p.group p.column p.stripe

  abbrev new : List ℕ
  new = set stamps (spot rack p.group p.column p.stripe) last

  cases : (i k : ℕ) → (i ≡ k) ⊎ ((i ≡ k → ⊥))
  cases i k = by_test (cases_Bool (i == k))
    where
      by_test : ((i == k ≡ true) ⊎ (i == k ≡ false)) → (i ≡ k) ⊎ ((i ≡ k → ⊥))
      by_test (inl e) = inl (eqb-true _ _ e)
      by_test (inr e) = inr (λ q. clash (i == k) (eq-eqb _ _ q) e)
        where
          clash : (b : Bool) → b ≡ true → b ≡ false → ⊥
          clash b t f = cc

  stamped : AreStamps rack stamps last → AreStamps rack new last
  stamped a = record {
    count = length-set stamps (spot rack p.group p.column p.stripe) last ∙ a.count;
    low = λ i. elim (cases (spot rack p.group p.column p.stripe) i) [
      | inl e ↦ (let l : spot rack p.group p.column p.stripe < length stamps = (let b = spot_below rack p.group p.column p.stripe lg lc ls in omega (arith, b, a.count)) in
          let is : get_or new i 0 ≡ last = ap (λ k. get_or new k 0) (sym e) ∙ get_or-set_same stamps (spot rack p.group p.column p.stripe) last 0 l in omega (arith, is))
      | inr ne ↦ (let is : get_or new i 0 ≡ get_or stamps i 0 = get_or-set_other stamps (spot rack p.group p.column p.stripe) i last 0 (λ q. ne (sym q)) in let low = a.low i in omega (arith, is, low))
    ];
  }

  pub marked : (before : List Place) → HaveMarks rack stamps last before → HaveMarks rack new last (before ++ p ∷ [])
  marked before h = record {
    all = stamped h.all;
    marks = λ g c s kg kc ks. elim (cases_Bool (is_at g c s p)) [
      | inl yes_at ↦ (let same = at_same g c s p yes_at in
          let e : spot rack p.group p.column p.stripe ≡ spot rack g c s = ap₂ (λ x y. (x * rack.stripes + y) * rack.columns + p.column) same.0 same.2 ∙ ap (λ y. (g * rack.stripes + s) * rack.columns + y) same.1 in
          let l : spot rack p.group p.column p.stripe < length stamps = (let b = spot_below rack p.group p.column p.stripe lg lc ls in let n = h.all.count in omega (arith, b, n)) in
          ap (λ n. not (n == last)) (ap (λ k. get_or new k 0) (sym e) ∙ get_or-set_same stamps (spot rack p.group p.column p.stripe) last 0 l) ∙ ap not (eq-eqb last last refl)
          ∙ sym (more_apart before p g c s true yes_at ∙ ap not (any_true (list_any (is_at g c s) before))))
      | inr not_at ↦ (let ne : spot rack p.group p.column p.stripe ≡ spot rack g c s → ⊥ = (λ q. (let r = same_spot rack p.group p.column p.stripe g c s lc kc ls ks q in clash (is_at g c s p) (same_at g c s p r.0 r.1 r.2) not_at)) in
          ap (λ n. not (n == last)) (get_or-set_other stamps (spot rack p.group p.column p.stripe) (spot rack g c s) last 0 (λ q. ne (sym q)))
          ∙ h.marks g c s kg kc ks ∙ sym (more_apart before p g c s false not_at ∙ ap not (any_false (list_any (is_at g c s) before))))
    ];
  }
    where
      any_true : (b : Bool) → b || true ≡ true
      any_true true = refl
      any_true false = refl

      any_false : (b : Bool) → b || false ≡ b
      any_false true = refl
      any_false false = refl

      clash : (b : Bool) → b ≡ true → b ≡ false → ⊥
      clash b t f = cc

-- no place has a stamp above all
pub unmarked : (rack : Rack) (stamps : List ℕ) (last now : ℕ) → AreStamps rack stamps last → last < now → HaveMarks rack stamps now []
unmarked rack stamps last now a l = record {
  all = record { count = a.count; low = λ i. (let low = a.low i in omega (arith, l, low)) };
  marks = λ g c s lg lc ls. (let low = a.low (spot rack g c s) in ap not (ne_eqb _ _ (λ e. omega (arith, e, low, l))));
}

-- none is above a higher one
pub stamps_below : (rack : Rack) (stamps : List ℕ) (last now : ℕ) → AreStamps rack stamps last → last ≤ now → AreStamps rack stamps now
stamps_below rack stamps last now a l = record { count = a.count; low = λ i. (let low = a.low i in omega (arith, l, low)) }

-- zeros are no stamps
pub no_stamps : (rack : Rack) (stamps : List ℕ) (n g z w : ℕ) → stamps ≡ replicate n 0 → length stamps ≡ g * z * w → g ≡ rack.groups → z ≡ rack.stripes → w ≡ rack.columns → AreStamps rack stamps 0
no_stamps rack stamps n g z w e m eg ez ew = record {
  count = m ∙ ap₂ (λ x y. x * y) (ap₂ (λ x y. x * y) eg ez) ew;
  low = λ i. (let is : get_or stamps i 0 ≡ 0 = ap (λ xs. get_or xs i 0) e ∙ zero_at n i in omega (arith, is));
}
  where
    zero_at : (n i : ℕ) → get_or {A = ℕ} (replicate n 0) i 0 ≡ 0
    zero_at zero i = refl
    zero_at (suc n) zero = refl
    zero_at (suc n) (suc i) = zero_at n i
