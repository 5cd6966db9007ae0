-- The rules on Void slots and on the cursor, kept.
use Rattle.std.proofs.Common.{◌≡◌, ◌≢◌, ◌<◌, ◌≤◌, ◌+◌, ◌⊎◌, inl, inr, ℕ, Bool, true, false, refl, ap, sym, ◌∙◌, subst, arith, nat_lt, nat_le, if◌then◌else◌}
use Rattle.std.proofs.lemmas.Bool.Decides.{nat_tests}
use Rattle.std.proofs.lemmas.Bool.{cases_eq}
use Rattle.pot_machine.specs.Slot.{is_void}
use Rattle.pot_machine.specs.Table.{Table, width, slot_at}
use Rattle.pot_machine.specs.Machine.{past, with_cursor}
use Rattle.pot_machine.specs.Rules.{HasCursor, HasVoids}

-- the same sizes and cursor, and the same slots are Void
pub record SameVoids (t u : Table) : Type 0 where
  pub data_columns : u.data_columns ≡ t.data_columns
  pub parity : u.parity ≡ t.parity
  pub stripes : u.stripes ≡ t.stripes
  pub cursor : u.cursor ≡ t.cursor
  pub voids : (s c : ℕ) → is_void (slot_at u s c) ≡ is_void (slot_at t s c)

pub voids_kept : (t u : Table) → SameVoids t u → HasVoids t → HasVoids u
voids_kept t u e h =
    let data_columns : u.data_columns ≡ t.data_columns = e.data_columns in
    let parity : u.parity ≡ t.parity = e.parity in
    let stripes : u.stripes ≡ t.stripes = e.stripes in
    let at : u.cursor.stripe ≡ t.cursor.stripe = ap (λ x. x.stripe) e.cursor in
    let before : u.cursor.column ≡ t.cursor.column = ap (λ x. x.column) e.cursor in
    record {
      first = λ s c k ls le lk v. e.voids s k ∙ h.first s c k (omega arith) le (omega arith) (sym (e.voids s c) ∙ v);
      parity = λ s c ls lw lc. e.voids s c ∙ h.parity s c (omega arith) (omega arith) (omega arith) ∙ sym (e.voids s 0);
      after = λ s c ls lz lc. e.voids s c ∙ h.after s c (omega arith) (omega arith) (omega arith);
      cursor = λ c lz lc. ap (λ s. is_void (slot_at u s c)) at ∙ e.voids t.cursor.stripe c ∙ h.cursor c (omega arith) (omega arith) ∙ ap (λ k. nat_le k c) (sym before);
    }

pub cursor_kept : (t u : Table) → u.data_columns ≡ t.data_columns → u.stripes ≡ t.stripes → u.cursor ≡ t.cursor → HasCursor t → HasCursor u
cursor_kept t u data_columns stripes cursor h =
    let at : u.cursor.stripe ≡ t.cursor.stripe = ap (λ x. x.stripe) cursor in
    let before : u.cursor.column ≡ t.cursor.column = ap (λ x. x.column) cursor in
    let low : t.cursor.stripe ≤ t.stripes = h.stripe in
    let within : t.cursor.column < t.data_columns = h.column in
    record {
      stripe = omega arith;
      column = omega arith;
      behind = λ e. before ∙ h.behind (sym at ∙ e ∙ stripes);
    }

-- the two places where the cursor may go
pub past_cases : (t : Table) (s c : ℕ) → ((past t s c ≡ record { stripe = s; column = c + 1 }) × (c + 1 < t.data_columns)) ⊎ ((past t s c ≡ record { stripe = s + 1; column = 0 }) × (t.data_columns ≤ c + 1))
past_cases t s c = cases (nat_lt (c + 1) t.data_columns) refl
  where
    cases : (b : Bool) → nat_lt (c + 1) t.data_columns ≡ b → ((past t s c ≡ record { stripe = s; column = c + 1 }) × (c + 1 < t.data_columns)) ⊎ ((past t s c ≡ record { stripe = s + 1; column = 0 }) × (t.data_columns ≤ c + 1))
    cases true e = inl (ap (λ b. record { stripe = if b then s else s + 1; column = if b then c + 1 else 0 }) e, grind (arith, nat_tests))
    cases false e = inr (ap (λ b. record { stripe = if b then s else s + 1; column = if b then c + 1 else 0 }) e, grind (arith, nat_tests))

-- a block was put: the data slot and all parity slots of the stripe are no longer Void
pub record IsPut (t u : Table) (s c : ℕ) : Type 0 where
  pub data_columns : u.data_columns ≡ t.data_columns
  pub parity : u.parity ≡ t.parity
  pub stripes : u.stripes ≡ t.stripes
  pub cursor : u.cursor ≡ past t s c
  pub written : is_void (slot_at u s c) ≡ false
  pub parities : (k : ℕ) → t.data_columns ≤ k → k < width t → is_void (slot_at u s k) ≡ false
  pub columns : (k : ℕ) → k < t.data_columns → k ≢ c → slot_at u s k ≡ slot_at t s k
  pub others : (n k : ℕ) → k < width t → n ≢ s → slot_at u n k ≡ slot_at t n k

below_next : (c k : ℕ) → k ≢ c → nat_le c k ≡ nat_le (c + 1) k
below_next c k ne = grind (arith, nat_tests)

not_itself : (c k : ℕ) → k ≡ c → nat_le (c + 1) k ≡ false
not_itself c k e = grind (arith, nat_tests)

not_zero : (c : ℕ) → nat_le (c + 1) 0 ≡ false
not_zero c = grind (arith, nat_tests)

zero_le : (k : ℕ) → nat_le 0 k ≡ true
zero_le k = grind (arith, nat_tests)

le_step : (c j k : ℕ) → j ≤ k → nat_le c j ≡ true → nat_le c k ≡ true
le_step c j k le h = grind (arith, nat_tests)

module _ (t u : Table) (s c : ℕ) (put : IsPut t u s c) (at : s ≡ t.cursor.stripe) (column : c ≡ t.cursor.column) (stripe : s < t.stripes) (below : c < t.data_columns) (voids : HasVoids t) where
  in_stripe : (k : ℕ) → k < t.data_columns → is_void (slot_at u s k) ≡ nat_le (c + 1) k
  in_stripe k lk = elim (cases_eq k c) [
    | inl e ↦ ap (λ j. is_void (slot_at u s j)) e ∙ put.written ∙ sym (not_itself c k e)
    | inr ne ↦ ap is_void (put.columns k lk ne) ∙ ap (λ n. is_void (slot_at t n k)) at ∙ voids.cursor k (omega arith) lk ∙ ap (λ n. nat_le n k) (sym column) ∙ below_next c k ne
  ]

  elsewhere : (n k : ℕ) → k < width t → n ≢ s → is_void (slot_at u n k) ≡ is_void (slot_at t n k)
  elsewhere n k lk ne = ap is_void (put.others n k lk ne)

  pub voids_put : HasVoids u
  voids_put =
      let data_columns : u.data_columns ≡ t.data_columns = put.data_columns in
      let parity : u.parity ≡ t.parity = put.parity in
      let stripes : u.stripes ≡ t.stripes = put.stripes in
      record {
        first = λ n j k ln le lk v. elim (cases_eq n s) [
          | inl e ↦ subst (λ n. is_void (slot_at u n k) ≡ true) (sym e)
              (in_stripe k (omega arith) ∙ le_step (c + 1) j k le (sym (in_stripe j (omega arith)) ∙ ap (λ n. is_void (slot_at u n j)) (sym e) ∙ v))
          | inr ne ↦ elsewhere n k (omega arith) ne ∙ voids.first n j k (omega arith) le (omega arith) (sym (elsewhere n j (omega arith) ne) ∙ v)
        ];
        parity = λ n k ln lw lk. elim (cases_eq n s) [
          | inl e ↦ subst (λ n. is_void (slot_at u n k) ≡ is_void (slot_at u n 0)) (sym e)
              (put.parities k (omega arith) (omega arith) ∙ sym (in_stripe 0 (omega arith) ∙ not_zero c))
          | inr ne ↦ elsewhere n k (omega arith) ne ∙ voids.parity n k (omega arith) (omega arith) (omega arith) ∙ sym (elsewhere n 0 (omega arith) ne)
        ];
        after = λ n k ln lz lk. (let ls : s < n = later n ln in elsewhere n k (omega arith) (omega arith) ∙ voids.after n k (omega arith) (omega arith) (omega arith));
        cursor = at_cursor;
      }
    where
      later : (n : ℕ) → u.cursor.stripe < n → s < n
      later n ln = elim (past_cases t s c) [
        | inl e ↦ (let q : u.cursor.stripe ≡ s = ap (λ x. x.stripe) (put.cursor ∙ e.0) in omega arith)
        | inr e ↦ (let q : u.cursor.stripe ≡ s + 1 = ap (λ x. x.stripe) (put.cursor ∙ e.0) in omega arith)
      ]

      at_cursor : (k : ℕ) → u.cursor.stripe < u.stripes → k < u.data_columns → is_void (slot_at u u.cursor.stripe k) ≡ nat_le u.cursor.column k
      at_cursor k lz lk = elim (past_cases t s c) [
        | inl e ↦ (let q : u.cursor ≡ record { stripe = s; column = c + 1 } = put.cursor ∙ e.0 in
            let data_columns : u.data_columns ≡ t.data_columns = put.data_columns in
            subst (λ x. is_void (slot_at u x.stripe k) ≡ nat_le x.column k) (sym q) (in_stripe k (omega arith)))
        | inr e ↦ (let q : u.cursor ≡ record { stripe = s + 1; column = 0 } = put.cursor ∙ e.0 in
            let data_columns : u.data_columns ≡ t.data_columns = put.data_columns in
            let stripes : u.stripes ≡ t.stripes = put.stripes in
            let next : u.cursor.stripe ≡ s + 1 = ap (λ x. x.stripe) q in
            subst (λ x. is_void (slot_at u x.stripe k) ≡ nat_le x.column k) (sym q)
            (elsewhere (s + 1) k (omega arith) (omega arith) ∙ voids.after (s + 1) k (omega arith) (omega arith) (omega arith) ∙ sym (zero_le k)))
      ]

  pub cursor_put : HasCursor u
  cursor_put =
      let data_columns : u.data_columns ≡ t.data_columns = put.data_columns in
      let stripes : u.stripes ≡ t.stripes = put.stripes in
      elim (past_cases t s c) [
        | inl e ↦ (let q : u.cursor ≡ record { stripe = s; column = c + 1 } = put.cursor ∙ e.0 in
            let next : u.cursor.stripe ≡ s = ap (λ x. x.stripe) q in
            let on : u.cursor.column ≡ c + 1 = ap (λ x. x.column) q in
            let room : c + 1 < t.data_columns = e.1 in
            record { stripe = omega arith; column = omega arith; behind = λ end. absurd (omega arith) })
        | inr e ↦ (let q : u.cursor ≡ record { stripe = s + 1; column = 0 } = put.cursor ∙ e.0 in
            let next : u.cursor.stripe ≡ s + 1 = ap (λ x. x.stripe) q in
            let on : u.cursor.column ≡ 0 = ap (λ x. x.column) q in
            record { stripe = omega arith; column = omega arith; behind = λ end. on })
      ]

-- the cursor skips the rest of its stripe
pub voids_skip : (t : Table) (s : ℕ) → s ≡ t.cursor.stripe → HasVoids t → HasVoids (with_cursor t (record { stripe = s + 1; column = 0 }))
voids_skip t s at h = record {
  first = h.first;
  parity = h.parity;
  after = λ n k ln lz lk. h.after n k (omega arith) lz lk;
  cursor = λ k lz lk. h.after (s + 1) k (omega arith) lz (omega arith) ∙ sym (zero_le k);
}

pub cursor_skip : (t : Table) (s : ℕ) → s < t.stripes → 1 ≤ t.data_columns → HasCursor (with_cursor t (record { stripe = s + 1; column = 0 }))
cursor_skip t s lt one = record { stripe = omega arith; column = omega arith; behind = λ e. refl }
