-- The slots of one table, of which some are made Live.
use Rattle.std.proofs.Common.{◌≡◌, ◌≢◌, ◌<◌, ◌≤◌, ◌+◌, ◌*◌, ◌/◌, ◌%◌, ◌++◌, ◌||◌, inl, inr, ℕ, Bool, true, false, Option, Some, None, List, [], ◌∷◌, length, map, take, get_or, set, refl, sym, ap, ap₂, subst, ◌∙◌, arith, if◌then◌else◌}
use Rattle.std.proofs.lemmas.Bool.{cases_eq, cases_lt}
use Rattle.std.proofs.lemmas.Bool.Decides.{nat_tests}
use Rattle.std.proofs.lemmas.List.{ext_get_or, get_or_past, take_more, get_or-map, get_or_default, get_or-set_same, get_or-set_other, length-map, length-set}
use Rattle.std.proofs.lemmas.List.Folds.{list_any-append}
use Rattle.std.proofs.lemmas.Nat.{div-add-mod', div_below, mod_below}
use Rattle.pot_bytes.specs.declared.digest.Digest.{Digest}
use Rattle.pot_machine.specs.declared.slot.SlotState.{SlotState}
use Rattle.pot_machine.specs.declared.slot.SlotState.TheVariants.{Void, Live, Lost, Broken}
use Rattle.pot_machine.specs.Slot.{digest_in, is_void, live_of}
use Rattle.pot_machine.specs.Table.{Table, width, place_of, slot_at}
use Rattle.pot_machine.specs.Rules.{HasSize, IsTable}
use Rattle.pot_machine.proofs.Places.{place_below, place_same}
use Rattle.pot_recheck.specs.declared.listing.Unsound.{Unsound}
use Rattle.pot_recheck.specs.Finding.{names, is_named, found_slot, AreFoundSlots, IsMadeLive}

-- ONE SLOT

pub live_twice : (x : SlotState) → live_of (live_of x) ≡ live_of x
live_twice Void = refl
live_twice (Live d) = refl
live_twice (Lost d) = refl
live_twice (Broken d) = refl

pub live_digest : (x : SlotState) → digest_in (live_of x) ≡ digest_in x
live_digest Void = refl
live_digest (Live d) = refl
live_digest (Lost d) = refl
live_digest (Broken d) = refl

abbrev pub found_by : Bool → SlotState → SlotState
found_by b x = if b then live_of x else x

pub by_digest : (b : Bool) (x : SlotState) → digest_in (found_by b x) ≡ digest_in x
by_digest true x = live_digest x
by_digest false x = refl

pub by_twice : (b : Bool) (x : SlotState) → found_by b (found_by b x) ≡ found_by b x
by_twice true x = live_twice x
by_twice false x = refl

by_named : (b : Bool) (x : SlotState) → found_by (b || (true || false)) x ≡ live_of (found_by b x)
by_named true x = sym (live_twice x)
by_named false x = refl

by_other : (b : Bool) (x : SlotState) → found_by (b || (false || false)) x ≡ found_by b x
by_other true x = refl
by_other false x = refl

-- PLACES

-- a place, by its stripe and column
pub record HasPlace (w z i : ℕ) : Type 0 where
  pub stripe : ℕ
  pub column : ℕ
  pub is : stripe * w + column ≡ i
  pub within : stripe < z
  pub below : column < w

pub has_place : (w z i : ℕ) → 1 ≤ w → i < z * w → HasPlace w z i
has_place w z i l m = record {
  stripe = i / w;
  column = i % w;
  is = div-add-mod' i w;
  within = div_below i w z (omega (arith, l)) m;
  below = mod_below i w (omega (arith, l));
}

-- lists of the slots of a table are one where they are one at each stripe and column
pub same_slots : (t : Table) (xs ys : List SlotState) → HasSize t → length xs ≡ length t.slots → length ys ≡ length t.slots
    → ((s c : ℕ) → s < t.stripes → c < width t → get_or xs (place_of t s c) Void ≡ get_or ys (place_of t s c) Void) → xs ≡ ys
same_slots t xs ys size l m each = ext_get_or Void xs ys (l ∙ sym m) (λ i below.
    (let wide = size.data_columns.0 in let p = has_place (width t) t.stripes i (omega (arith, wide)) (let n = size.slots in omega (arith, below, l, n)) in
    subst (λ j. get_or xs j Void ≡ get_or ys j Void) p.is (each p.stripe p.column p.within p.below)))

-- ONE MORE IS NAMED

module _ (found : List Unsound) (u : Unsound) (g : ℕ) (t : Table) where
  named_more : (s c : ℕ) → is_named (found ++ u ∷ []) g s c ≡ (is_named found g s c || (names g s c u || false))
  named_more s c = list_any-append (names g s c) found (u ∷ [])

  more_as : (s c : ℕ) (b : Bool) → names g s c u ≡ b → found_slot (found ++ u ∷ []) g t s c ≡ found_by (is_named found g s c || (b || false)) (slot_at t s c)
  more_as s c b e = ap (λ x. found_by x (slot_at t s c)) (named_more s c ∙ ap (λ x. is_named found g s c || (x || false)) e)

  -- another group's
  pub other_group : (slots : List SlotState) → u.group ≢ g → AreFoundSlots found g t slots → AreFoundSlots (found ++ u ∷ []) g t slots
  other_group slots ne are = record {
    count = are.count;
    each = λ s c ls lc. are.each s c ls lc ∙ sym (more_as s c false (let e : names g s c u ≡ false = apart s c in e) ∙ by_other (is_named found g s c) (slot_at t s c));
  }
    where
      apart : (s c : ℕ) → names g s c u ≡ false
      apart s c = grind (arith, nat_tests)

  -- this group's
  pub this_group : (old new : List SlotState) → u.group ≡ g → IsMadeLive t u.stripe u.column old new → AreFoundSlots found g t old → AreFoundSlots (found ++ u ∷ []) g t new
  this_group old new e made are = record {
    count = made.count ∙ are.count;
    each = λ s c ls lc. elim (cases_eq s u.stripe) [
      | inl p ↦ elim (cases_eq c u.column) [
        | inl q ↦ there s c ls lc p q
        | inr ne ↦ elsewhere s c ls lc (λ h. ne h.1)
      ]
      | inr ne ↦ elsewhere s c ls lc (λ h. ne h.0)
    ];
  }
    where
      itself : (s c : ℕ) → s ≡ u.stripe → c ≡ u.column → names g s c u ≡ true
      itself s c p q = grind (arith, nat_tests)

      another : (s c : ℕ) → ((s ≡ u.stripe) × (c ≡ u.column) → ⊥) → names g s c u ≡ false
      another s c ne = elim (cases_eq s u.stripe) [
        | inl p ↦ (let q : c ≢ u.column = λ h. ne (p, h) in grind (arith, nat_tests))
        | inr p ↦ grind (arith, nat_tests)
      ]

      there : (s c : ℕ) → s < t.stripes → c < width t → s ≡ u.stripe → c ≡ u.column → get_or new (place_of t s c) Void ≡ found_slot (found ++ u ∷ []) g t s c
      there s c ls lc p q =
          ap₂ (λ a b. get_or new (place_of t a b) Void) p q ∙ made.there (omega (arith, ls, p)) (omega (arith, lc, q))
          ∙ ap₂ (λ a b. live_of (get_or old (place_of t a b) Void)) (sym p) (sym q) ∙ ap live_of (are.each s c ls lc)
          ∙ sym (more_as s c true (itself s c p q) ∙ by_named (is_named found g s c) (slot_at t s c))

      elsewhere : (s c : ℕ) → s < t.stripes → c < width t → ((s ≡ u.stripe) × (c ≡ u.column) → ⊥) → get_or new (place_of t s c) Void ≡ found_slot (found ++ u ∷ []) g t s c
      elsewhere s c ls lc ne =
          made.others s c ls lc ne ∙ are.each s c ls lc ∙ sym (more_as s c false (another s c ne) ∙ by_other (is_named found g s c) (slot_at t s c))

module _ (found : List Unsound) (i : ℕ) (d : Unsound) (g : ℕ) (t : Table) (l : i < length found) where
  pub more_other : (old now : List SlotState) → now ≡ old → (get_or found i d).group ≢ g → AreFoundSlots (take i found) g t old → AreFoundSlots (take (i + 1) found) g t now
  more_other old now same ne are = subst (AreFoundSlots (take (i + 1) found) g t) (sym same)
      (subst (λ f. AreFoundSlots f g t old) (sym (take_more found i d l)) (other_group (take i found) (get_or found i d) g t old ne are))

  pub more_this : (old given new now : List SlotState) → now ≡ new → given ≡ old → (get_or found i d).group ≡ g → IsMadeLive t (get_or found i d).stripe (get_or found i d).column given new
      → AreFoundSlots (take i found) g t old → AreFoundSlots (take (i + 1) found) g t now
  more_this old given new now same was e made are = subst (AreFoundSlots (take (i + 1) found) g t) (sym same)
      (subst (λ f. AreFoundSlots f g t new) (sym (take_more found i d l))
      (this_group (take i found) (get_or found i d) g t given new e made (subst (AreFoundSlots (take i found) g t) (sym was) are)))

-- none is named
pub none_found : (g : ℕ) (t : Table) → AreFoundSlots [] g t t.slots
none_found g t = record { count = refl; each = λ s c ls lc. refl }

-- WHAT STAYS

module _ (found : List Unsound) (g : ℕ) (t : Table) (slots : List SlotState) (size : HasSize t) (are : AreFoundSlots found g t slots) where
  digest_at : (i : ℕ) → digest_in (get_or slots i Void) ≡ digest_in (get_or t.slots i Void)
  digest_at i = elim (cases_lt i (length t.slots)) [
    | inl l ↦ (let wide = size.data_columns.0 in let n = size.slots in let p = has_place (width t) t.stripes i (omega (arith, wide)) (omega (arith, l, n)) in
        subst (λ j. digest_in (get_or slots j Void) ≡ digest_in (get_or t.slots j Void)) p.is
        (ap digest_in (are.each p.stripe p.column p.within p.below) ∙ by_digest (is_named found g p.stripe p.column) (slot_at t p.stripe p.column)))
    | inr l ↦ ap digest_in (get_or_past slots i Void (let n = are.count in omega (arith, l, n)) ∙ sym (get_or_past t.slots i Void l))
  ]

  pub same_digests : map digest_in slots ≡ map digest_in t.slots
  same_digests = ext_get_or None (map digest_in slots) (map digest_in t.slots) (length-map slots digest_in ∙ are.count ∙ sym (length-map t.slots digest_in)) (λ i l.
      (let n = length-map slots digest_in in let m = are.count in
      get_or-map digest_in slots i Void None (omega (arith, l, n)) ∙ digest_at i ∙ sym (get_or-map digest_in t.slots i Void None (omega (arith, l, n, m)))))

  pub voids_same : (s c : ℕ) → is_void (get_or slots (place_of t s c) Void) ≡ is_void (slot_at t s c)
  voids_same s c = void_is (get_or slots (place_of t s c) Void) ∙ ap no_digest (digest_at (place_of t s c)) ∙ sym (void_is (slot_at t s c))
    where
      no_digest : Option Digest → Bool
      no_digest None = true
      no_digest (Some d) = false

      void_is : (x : SlotState) → is_void x ≡ no_digest (digest_in x)
      void_is Void = refl
      void_is (Live d) = refl
      void_is (Lost d) = refl
      void_is (Broken d) = refl

-- ONE IS MADE LIVE

pub made_live : (t : Table) (s c w k : ℕ) (old : List SlotState) (x d : SlotState) → IsTable t → length old ≡ length t.slots → w ≡ width t → k ≡ c → s < t.stripes → c < width t
    → x ≡ live_of (get_or old (s * w + k) d) → IsMadeLive t s c old (set old (s * w + k) x)
made_live t s c w k old x d is many ew ek ls lc ex =
    let e : s * w + k ≡ place_of t s c = ap₂ (λ a b. s * a + b) ew ek in
    let within : s * w + k < length old = (let b = place_below (width t) t.stripes s c ls lc in let n = is.size.slots in omega (arith, b, n, many, e)) in
    record {
      count = length-set old (s * w + k) x;
      there = λ _ _. ap (λ i. get_or (set old (s * w + k) x) i Void) (sym e) ∙ get_or-set_same old (s * w + k) x Void within ∙ ex
          ∙ ap live_of (get_or_default old (s * w + k) d Void within ∙ ap (λ i. get_or old i Void) e);
      others = λ n j ln lj ne. get_or-set_other old (s * w + k) (place_of t n j) x Void (λ h. ne (place_same (width t) n j s c lj lc (h ∙ e)));
    }
