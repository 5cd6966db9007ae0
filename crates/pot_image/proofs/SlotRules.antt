-- The slots of a table that was read keep its rules.
use Rattle.std.proofs.Common.{◌≡◌, ◌⊎◌, inl, inr, ◌<◌, ◌≤◌, ℕ, zero, suc, ◌+◌, ◌-◌, ◌*◌, ◌==◌, ◌&&◌, ◌||◌, nat_le, nat_lt, Bool, true, false, not, cond, if◌then◌else◌, IsTrue, List, [], ◌∷◌, ◌++◌, length, get_or, Ok, ap, ap₂, eq-eqb, sym, ◌∙◌, refl, arith, length-append}
use Rattle.std.proofs.Math.Seq.{get_or-append_seam}
use Rattle.std.proofs.lemmas.List.{get_or_append_left}
use Rattle.std.proofs.lemmas.Bool.{le-leb, leb-true, lt-ltb, le-ltb, ne_eqb, and_parts, cases_Bool}
use Rattle.std.proofs.lemmas.Bool.Decides.{nat_tests}
use Rattle.pot_bytes.specs.declared.digest.Digest.{Digest}
use Rattle.pot_machine.specs.declared.slot.SlotState.{SlotState}
use Rattle.pot_machine.specs.declared.slot.SlotState.TheVariants.{Void, Live, Lost, Broken}
use Rattle.pot_machine.specs.declared.cursor.Cursor.{Cursor}
use Rattle.pot_machine.specs.Slot.{is_void}
use Rattle.pot_machine.specs.Table.{Table, width, slot_at}
use Rattle.pot_machine.specs.Rules.{HasVoids}
use Rattle.pot_machine.proofs.Places.{place_same, place_below}
use Rattle.pot_image.specs.Fields.{done}
use Rattle.pot_image.specs.Reading.{◌>>=◌, reading}
use Rattle.pot_image.specs.Numbers.{natural, between, digest}
use Rattle.pot_image.specs.Tables.{allows, state_of, slot, slot_behind, stripe_slots, slots}
use Rattle.pot_image.proofs.Steps.{holds_of}
use Rattle.pot_image.proofs.Inverse.{parts, done_is, read_chosen, read_other, several_keep, over_keep}

-- ONE SLOT

not_void : (n : ℕ) (d : Digest) → is_void (state_of n d) ≡ false
not_void n d = by_tests (n == 1) (n == 2)
  where
    by_tests : (a b : Bool) → is_void (cond a (Live d) (cond b (Lost d) (Broken d))) ≡ false
    by_tests true b = refl
    by_tests false true = refl
    by_tests false false = refl

pub slot_is_allowed : (allowed : Bool → Bool) (bytes rest : List ℕ) (x : SlotState) → reading (slot allowed) bytes ≡ Ok (x, rest) → allowed (is_void x) ≡ true
unfolding slot
slot_is_allowed allowed bytes rest x e =
    (let r = parts (natural 1 (λ n. between 0 3 n && allowed (n == 0))) (λ state. if state == 0 then done Void else digest >>= λ d. done (state_of state d)) bytes x rest e in
    let rule = and_parts (between 0 3 r.value) (allowed (r.value == 0)) (holds_of 1 (λ n. between 0 3 n && allowed (n == 0)) bytes r.behind r.value r.first) in
    ap allowed (void r.value r.behind r.second (cases_Bool (r.value == 0))) ∙ rule.1)
  where
    void : (n : ℕ) (behind : List ℕ) → reading (if n == 0 then done Void else digest >>= λ d. done (state_of n d)) behind ≡ Ok (x, rest) → ((n == 0 ≡ true) ⊎ (n == 0 ≡ false)) → is_void x ≡ (n == 0)
    void n behind h (inl z) = sym (ap is_void (done_is Void x behind rest (read_chosen _ _ _ _ _ z h)).0) ∙ sym z
    void n behind h (inr z) =
        let s = parts digest (λ d. done (state_of n d)) behind x rest (read_other _ _ _ _ _ z h) in
        sym (ap is_void (done_is (state_of n s.value) x s.behind rest s.second).0) ∙ not_void n s.value ∙ sym z

-- THE RULE LOOKS BACK ALONE

abbrev pub allowed_by : Bool → Bool → Bool → Bool → Bool → Bool → Bool → Bool → Bool
allowed_by late parity here past first_column first before void =
    if late then void
    else if parity then (if first then void else not void)
    else if here then (if past then void else not void)
    else first_column || (not before || void)

same_allowed : (late parity here past first_column f g p q void : Bool) → (parity ≡ true → f ≡ g) → (first_column ≡ false → p ≡ q)
    → allowed_by late parity here past first_column f p void ≡ allowed_by late parity here past first_column g q void
same_allowed true parity here past first_column f g p q void h k = refl
same_allowed false true here past first_column f g p q void h k = ap (λ z. if z then void else not void) (h refl)
same_allowed false false true past first_column f g p q void h k = refl
same_allowed false false false past true f g p q void h k = refl
same_allowed false false false past false f g p q void h k = ap (λ z. not z || void) (k refl)

pub looks_back : (cursor : Cursor) (data_columns w : ℕ) (a b : List SlotState) (s c : ℕ) (void : Bool) → 1 ≤ data_columns
    → ((p : ℕ) → p < s * w + c → get_or a p Void ≡ get_or b p Void) → allows cursor data_columns w a s c void ≡ allows cursor data_columns w b s c void
looks_back cursor data_columns w a b s c void some same =
    same_allowed (nat_lt cursor.stripe s) (nat_le data_columns c) (s == cursor.stripe) (nat_le cursor.column c) (c == 0) _ _ _ _ void
    (λ e. (let l : data_columns ≤ c = leb-true _ _ e in ap is_void (same (s * w) (omega arith))))
    (λ e. (let l : 0 < c = positive c e in ap is_void (same (s * w + c - 1) (omega arith))))
  where
    positive : (n : ℕ) → n == 0 ≡ false → 0 < n
    positive n e = grind (arith, nat_tests)

-- ALL SLOTS

-- each slot may stand where it does
abbrev pub AreAllowed : Cursor → ℕ → ℕ → List SlotState → Type 0
AreAllowed cursor data_columns w before = (s c : ℕ) → c < w → s * w + c < length before → allows cursor data_columns w before s c (is_void (get_or before (s * w + c) Void)) ≡ true

one_more : (cursor : Cursor) (data_columns w : ℕ) (before : List SlotState) (x : SlotState) (s c : ℕ) → 1 ≤ data_columns → c < w → length before ≡ s * w + c
    → AreAllowed cursor data_columns w before → allows cursor data_columns w before s c (is_void x) ≡ true → AreAllowed cursor data_columns w (before ++ x ∷ [])
one_more cursor data_columns w before x s c some lc len all now n k lk l = elim (nearer (n * w + k) (length before)) [
  | inl below ↦ looks_back cursor data_columns w (before ++ x ∷ []) before n k _ some (λ p lp. get_or_append_left before (x ∷ []) Void p (omega (arith, below, lp)))
      ∙ ap (λ v. allows cursor data_columns w before n k (is_void v)) (get_or_append_left before (x ∷ []) Void (n * w + k) below) ∙ all n k lk below
  | inr at ↦ (
      let whole : length (before ++ x ∷ []) ≡ length before + 1 = length-append before (x ∷ []) in
      let place : n * w + k ≡ length before = omega (arith, at, l, whole) in
      let same = place_same w n k s c lk lc (place ∙ len) in
      let stands : get_or (before ++ x ∷ []) (n * w + k) Void ≡ x = ap (λ p. get_or (before ++ x ∷ []) p Void) place ∙ get_or-append_seam before x [] Void in
      looks_back cursor data_columns w (before ++ x ∷ []) before n k _ some (λ p lp. get_or_append_left before (x ∷ []) Void p (omega (arith, place, lp)))
      ∙ ap (λ v. allows cursor data_columns w before n k (is_void v)) stands
      ∙ ap₂ (λ i j. allows cursor data_columns w before i j (is_void x)) same.0 same.1
      ∙ now)
]
  where
    nearer : (a b : ℕ) → (a < b) ⊎ (b ≤ a)
    nearer a b = grind arith

pub slots_are_allowed : (cursor : Cursor) (data_columns w z : ℕ) (bytes rest : List ℕ) (all : List SlotState) → 1 ≤ data_columns
    → reading (slots cursor data_columns w z) bytes ≡ Ok (all, rest) → (length all ≡ z * w) × AreAllowed cursor data_columns w all
unfolding slots stripe_slots
slots_are_allowed cursor data_columns w z bytes rest all some e =
    over_keep (λ s before. (length before ≡ s * w) × AreAllowed cursor data_columns w before) (stripe_slots cursor data_columns w) z
    (λ s before after bs rs ls p h. (let row = several_keep (λ c seen. (length seen ≡ s * w + c) × AreAllowed cursor data_columns w seen) (slot_behind cursor data_columns w s) w
    (λ c seen x cs ds lc q i. (counted seen x s c q.0, one_more cursor data_columns w seen x s c some lc q.0 q.1 (slot_is_allowed (allows cursor data_columns w seen s c) cs ds x i)))
    w 0 before after bs rs (omega arith) (omega (arith, p.0), p.1) h in
    (row.0 ∙ next s, row.1)))
    z 0 [] all bytes rest (omega arith) (none, (λ n k lk l. absurd (omega (arith, l)))) e
  where
    counted : (seen : List SlotState) (x : SlotState) (s c : ℕ) → length seen ≡ s * w + c → length (seen ++ x ∷ []) ≡ s * w + (c + 1)
    counted seen x s c q = (let h : length (seen ++ x ∷ []) ≡ length seen + 1 = length-append seen (x ∷ []) in omega (arith, h, q))

    next : (s : ℕ) → s * w + w ≡ (s + 1) * w
    next s = grind arith

    none : 0 ≡ 0 * w
    none = omega arith

-- HENCE THE RULES OF A TABLE

late_void : (late parity here past first_column first before void : Bool) → late ≡ true → allowed_by late parity here past first_column first before void ≡ true → void ≡ true
late_void true parity here past first_column first before void e h = h
late_void false parity here past first_column first before void e h = absurd ((cc))

parity_void : (late parity here past first_column first before void : Bool) → late ≡ false → parity ≡ true → allowed_by late parity here past first_column first before void ≡ true → void ≡ first
parity_void true parity here past first_column first before void e p h = absurd ((cc))
parity_void false false here past first_column first before void e p h = absurd ((cc))
parity_void false true here past first_column true before true e p h = refl
parity_void false true here past first_column false before false e p h = refl
parity_void false true here past first_column true before false e p h = absurd ((cc))
parity_void false true here past first_column false before true e p h = absurd ((cc))

here_void : (late parity here past first_column first before void : Bool) → late ≡ false → parity ≡ false → here ≡ true → allowed_by late parity here past first_column first before void ≡ true → void ≡ past
here_void true parity here past first_column first before void e p q h = absurd ((cc))
here_void false true here past first_column first before void e p q h = absurd ((cc))
here_void false false false past first_column first before void e p q h = absurd ((cc))
here_void false false true true first_column first before true e p q h = refl
here_void false false true false first_column first before false e p q h = refl
here_void false false true true first_column first before false e p q h = absurd ((cc))
here_void false false true false first_column first before true e p q h = absurd ((cc))

early_void : (late parity here past first_column first before void : Bool) → late ≡ false → parity ≡ false → here ≡ false → first_column ≡ false → allowed_by late parity here past first_column first before void ≡ true → before ≡ true → void ≡ true
early_void true parity here past first_column first before void e p q f h b = absurd ((cc))
early_void false true here past first_column first before void e p q f h b = absurd ((cc))
early_void false false true past first_column first before void e p q f h b = absurd ((cc))
early_void false false false past true first before void e p q f h b = absurd ((cc))
early_void false false false past false first false void e p q f h b = absurd ((cc))
early_void false false false past false first true true e p q f h b = refl
early_void false false false past false first true false e p q f h b = absurd ((cc))

module _ (t : Table) (size : length t.slots ≡ t.stripes * width t) (all : AreAllowed t.cursor t.data_columns (width t) t.slots) (some : 1 ≤ t.data_columns) where
  at : (s c : ℕ) → s < t.stripes → c < width t → allows t.cursor t.data_columns (width t) t.slots s c (is_void (slot_at t s c)) ≡ true
  at s c ls lc = all s c lc (let h = place_below (width t) t.stripes s c ls lc in omega (arith, h, size))

  late : (s c : ℕ) → t.cursor.stripe < s → s < t.stripes → c < width t → IsTrue (is_void (slot_at t s c))
  late s c l ls lc = late_void (nat_lt t.cursor.stripe s) (nat_le t.data_columns c) (s == t.cursor.stripe) (nat_le t.cursor.column c) (c == 0) (is_void (get_or t.slots (s * width t) Void)) (is_void (get_or t.slots (s * width t + c - 1) Void)) (is_void (slot_at t s c)) (lt-ltb _ _ l) (at s c ls lc)

  cases : (a b : ℕ) → (a < b) ⊎ (b ≤ a)
  cases a b = grind arith

  first_slot : (s : ℕ) → get_or t.slots (s * width t) Void ≡ slot_at t s 0
  first_slot s = (let e : s * width t ≡ s * width t + 0 = omega arith in ap (λ p. get_or t.slots p Void) e)

  of_parity : (s c : ℕ) → s < t.stripes → t.data_columns ≤ c → c < width t → is_void (slot_at t s c) ≡ is_void (slot_at t s 0)
  of_parity s c ls lc lw = elim (cases t.cursor.stripe s) [
    | inl l ↦ late s c l ls lw ∙ sym (late s 0 l ls (omega (arith, lw)))
    | inr l ↦ parity_void (nat_lt t.cursor.stripe s) (nat_le t.data_columns c) (s == t.cursor.stripe) (nat_le t.cursor.column c) (c == 0) (is_void (get_or t.slots (s * width t) Void)) (is_void (get_or t.slots (s * width t + c - 1) Void)) (is_void (slot_at t s c)) (le-ltb _ _ l) (le-leb _ _ lc) (at s c ls lw) ∙ ap is_void (first_slot s)
  ]

  of_cursor : (s c : ℕ) → s ≡ t.cursor.stripe → s < t.stripes → c < t.data_columns → is_void (slot_at t s c) ≡ nat_le t.cursor.column c
  of_cursor s c e ls lc =
      here_void (nat_lt t.cursor.stripe s) (nat_le t.data_columns c) (s == t.cursor.stripe) (nat_le t.cursor.column c) (c == 0) (is_void (get_or t.slots (s * width t) Void)) (is_void (get_or t.slots (s * width t + c - 1) Void)) (is_void (slot_at t s c)) (le-ltb _ _ (omega (arith, e))) (lt_leb lc) (eq-eqb _ _ e) (at s c ls (omega (arith, lc)))
    where
      lt_leb : c < t.data_columns → nat_le t.data_columns c ≡ false
      lt_leb l = grind (arith, nat_tests)

  next_void : (s c : ℕ) → s < t.stripes → c + 1 < t.data_columns → IsTrue (is_void (slot_at t s c)) → IsTrue (is_void (slot_at t s (c + 1)))
  next_void s c ls lc v = elim (cases t.cursor.stripe s) [
    | inl l ↦ late s (c + 1) l ls (omega (arith, lc))
    | inr l ↦ elim (cases s t.cursor.stripe) [
      | inl before ↦ early_void (nat_lt t.cursor.stripe s) (nat_le t.data_columns (c + 1)) (s == t.cursor.stripe) (nat_le t.cursor.column (c + 1)) ((c + 1) == 0) (is_void (get_or t.slots (s * width t) Void)) (is_void (get_or t.slots (s * width t + (c + 1) - 1) Void)) (is_void (slot_at t s (c + 1))) (le-ltb _ _ l) (lt_leb lc) (other before) (positive c) (at s (c + 1) ls (omega (arith, lc))) (ap is_void previous ∙ v)
      | inr after ↦ (let e : s ≡ t.cursor.stripe = omega (arith, l, after) in of_cursor s (c + 1) e ls lc ∙ more (sym (of_cursor s c e ls (omega (arith, lc))) ∙ v))
    ]
  ]
    where
      lt_leb : c + 1 < t.data_columns → nat_le t.data_columns (c + 1) ≡ false
      lt_leb l = grind (arith, nat_tests)

      other : s < t.cursor.stripe → s == t.cursor.stripe ≡ false
      other l = ne_eqb s t.cursor.stripe (λ e. omega (arith, e, l))

      positive : (n : ℕ) → n + 1 == 0 ≡ false
      positive n = ne_eqb (n + 1) 0 (λ e. omega (arith, e))

      previous : get_or t.slots (s * width t + (c + 1) - 1) Void ≡ slot_at t s c
      previous = (let e : s * width t + (c + 1) - 1 ≡ s * width t + c = omega arith in ap (λ p. get_or t.slots p Void) e)

      more : nat_le t.cursor.column c ≡ true → nat_le t.cursor.column (c + 1) ≡ true
      more h = (let l = leb-true _ _ h in le-leb _ _ (omega (arith, l)))

  spread : (n s c : ℕ) → s < t.stripes → c + n < t.data_columns → IsTrue (is_void (slot_at t s c)) → IsTrue (is_void (slot_at t s (c + n)))
  spread zero s c ls l v = (let e : c ≡ c + 0 = omega arith in ap (λ k. is_void (slot_at t s k)) (sym e) ∙ v)
  spread (suc n) s c ls l v = (let e : c + n + 1 ≡ c + suc n = omega arith in ap (λ k. is_void (slot_at t s k)) (sym e) ∙ next_void s (c + n) ls (omega (arith, l)) (spread n s c ls (omega (arith, l)) v))

  pub voids_of : HasVoids t
  voids_of = record {
    first = λ s c k ls lck lk v. (let e : c + (k - c) ≡ k = omega (arith, lck) in ap (λ j. is_void (slot_at t s j)) (sym e) ∙ spread (k - c) s c ls (omega (arith, lk, e)) v);
    parity = of_parity;
    after = λ s c l ls lc. late s c l ls lc;
    cursor = λ c ls lc. of_cursor t.cursor.stripe c refl ls lc;
  }
