-- What each entry leaves alone.
use Rattle.std.proofs.Common.{◌≡◌, ◌≢◌, inl, inr, ◌<◌, ◌≤◌, ◌+◌, ℕ, zero, suc, Bool, true, false, not, IsTrue, Some, List, [], ◌∷◌, ◌++◌, map, filter, cond, get_or, refl, sym, ap, ◌∙◌, subst, arith, nat_le, if◌then◌else◌}
use Rattle.std.specs.Prelude.{◌==◌}
use Rattle.std.proofs.lemmas.Bool.Decides.{nat_tests}
use Rattle.std.proofs.lemmas.Bool.{cases_eq, both_ways}
use Rattle.pot_machine.specs.declared.slot.SlotState.{SlotState}
use Rattle.pot_machine.specs.declared.slot.SlotState.TheVariants.{Void, Live, Lost, Broken}
use Rattle.pot_machine.specs.declared.relay.Relay.{Relay}
use Rattle.pot_machine.specs.declared.entry.Entry.TheVariants.{Put, Skip, Gone, Broke, Begin, Hop, Mended, GaveUp, Oddly, MoveBegin, Moved, MoveEnd, Swapped, Put2}
use Rattle.pot_machine.specs.Slot.{is_void, is_live, digest_in, lost_of, broken_of, live_of}
use Rattle.pot_machine.specs.Table.{Table, width, slot_at, no_column, relay_in}
use Rattle.pot_machine.specs.Machine.{Legal, after, TakesPut, with_slot, with_loss, with_losses, hopped, Replays}
use Rattle.pot_machine.specs.Rules.{IsTable}
use Rattle.pot_machine.specs.Laws.{SizesStay, SlotsStay, DigestsStay, DataStays, LiveByPut, CursorStays, ColumnsStay, RelaysStay, RulesStay, LogsWentOn, ParityVoid}
use Rattle.pot_machine.proofs.Sizes.{gave_up_range, data_columns-with_losses, width-with_losses, stripes-with_losses}
use Rattle.pot_machine.proofs.Places.{slot_after, slot_other}
use Rattle.pot_machine.proofs.Columns.{column_other}
use Rattle.pot_machine.proofs.Kept.{put_other, put2_other, after_keeps}

parity-with_losses : (n : ℕ) (t : Table) (c : ℕ) → (with_losses n t c).parity ≡ t.parity
parity-with_losses zero t c = refl
parity-with_losses (suc n) t c = parity-with_losses n t c

cursor-with_losses : (n : ℕ) (t : Table) (c : ℕ) → (with_losses n t c).cursor ≡ t.cursor
cursor-with_losses zero t c = refl
cursor-with_losses (suc n) t c = cursor-with_losses n t c

pub columns-with_losses : (n : ℕ) (t : Table) (c : ℕ) → (with_losses n t c).columns ≡ t.columns
columns-with_losses zero t c = refl
columns-with_losses (suc n) t c = columns-with_losses n t c

pub relays-with_losses : (n : ℕ) (t : Table) (c : ℕ) → (with_losses n t c).relays ≡ t.relays
relays-with_losses zero t c = refl
relays-with_losses (suc n) t c = relays-with_losses n t c

pub sizes_stay : SizesStay
sizes_stay t (Moved job s c true) = (refl, refl, refl)
sizes_stay t (Moved job s c false) = (refl, refl, refl)
sizes_stay t (Swapped job c to) = (data_columns-with_losses t.stripes t c, parity-with_losses t.stripes t c, stripes-with_losses t.stripes t c)
sizes_stay t _ = (refl, refl, refl)

pub cursor_stays : CursorStays
cursor_stays t (Put job s c digest parity_digest kept) apart = absurd (apart tt)
cursor_stays t (Skip job s) apart = absurd (apart tt)
cursor_stays t (Put2 job s c digest parity_digest second_digest kept kept2) apart = absurd (apart tt)
cursor_stays t (Moved job s c true) apart = refl
cursor_stays t (Moved job s c false) apart = refl
cursor_stays t (Swapped job c to) apart = cursor-with_losses t.stripes t c
cursor_stays t _ apart = refl

pub columns_stay : ColumnsStay
columns_stay t (MoveBegin job c to) k apart = column_other t c k _ apart
columns_stay t (Moved job s c true) k apart = column_other t c k _ apart
columns_stay t (Moved job s c false) k apart = column_other (with_loss t s c) c k _ apart
columns_stay t (MoveEnd job c) k apart = column_other t c k _ apart
columns_stay t (Swapped job c to) k apart = column_other (with_losses t.stripes t c) c k _ apart ∙ ap (λ xs. get_or xs k no_column) (columns-with_losses t.stripes t c)
columns_stay t _ k apart = refl

-- relays of other stripes
find-append : (relays : List Relay) (r : Relay) (n : ℕ) → n ≢ r.stripe → relay_in (relays ++ r ∷ []) n ≡ relay_in relays n
find-append [] r n ne = rw (other r.stripe n ne) refl
  where
    other : (a b : ℕ) → b ≢ a → (a == b) ≡ false
    other a b ne = grind (arith, nat_tests)
find-append (x ∷ relays) r n ne = ap (λ o. cond (x.stripe == n) (Some x) o) (find-append relays r n ne)

find-hopped : (relays : List Relay) (s c n : ℕ) → n ≢ s → relay_in (map (hopped s c) relays) n ≡ relay_in relays n
find-hopped [] s c n ne = refl
find-hopped (x ∷ relays) s c n ne = step (x.stripe == n) refl ∙ ap (λ o. cond (x.stripe == n) (Some x) o) (find-hopped relays s c n ne)
  where
    same : (a b c : ℕ) → (a == b) ≡ true → b ≢ c → (a == c) ≡ false
    same a b c e ne = grind (arith, nat_tests)

    step : (b : Bool) → (x.stripe == n) ≡ b → cond (x.stripe == n) (Some (hopped s c x)) (relay_in (map (hopped s c) relays) n) ≡ cond (x.stripe == n) (Some x) (relay_in (map (hopped s c) relays) n)
    step true e = ap (λ b. cond (x.stripe == n) (Some (record { stripe = x.stripe; target = x.target; skip = x.skip; last = if b then Some c else x.last })) (relay_in (map (hopped s c) relays) n)) (same x.stripe n s e ne)
    step false e = rw e refl

find-without : (relays : List Relay) (s n : ℕ) → n ≢ s → relay_in (filter (λ r. not (r.stripe == s)) relays) n ≡ relay_in relays n
find-without [] s n ne = refl
find-without (x ∷ relays) s n ne = step (x.stripe == s) refl ∙ ap (λ o. cond (x.stripe == n) (Some x) o) (find-without relays s n ne)
  where
    other : (a b c : ℕ) → (a == b) ≡ true → c ≢ b → (a == c) ≡ false
    other a b c e ne = grind (arith, nat_tests)

    rest : List Relay
    rest = filter (λ r. not (r.stripe == s)) relays

    step : (b : Bool) → (x.stripe == s) ≡ b → relay_in (cond (not (x.stripe == s)) (x ∷ rest) rest) n ≡ cond (x.stripe == n) (Some x) (relay_in rest n)
    step true e = rw e (sym (ap (λ b. cond b (Some x) (relay_in rest n)) (other x.stripe s n e ne)))
    step false e = rw e refl

pub relays_stay : RelaysStay
relays_stay t (Begin job s c) n apart = find-append t.relays _ n apart
relays_stay t (Hop job s c) n apart = find-hopped t.relays s c n apart
relays_stay t (Mended job s c) n apart = find-without t.relays s n apart
relays_stay t (GaveUp job s c other) n apart = find-without t.relays s n apart
relays_stay t (Oddly job s c found) n apart = find-without t.relays s n apart
relays_stay t (Moved job s c true) n apart = refl
relays_stay t (Moved job s c false) n apart = refl
relays_stay t (Swapped job c to) n apart = ap (λ xs. relay_in xs n) (relays-with_losses t.stripes t c)
relays_stay t _ n apart = refl

-- the losses of a column stay in it
losses_other : (m : ℕ) (t : Table) (c n k : ℕ) → c < width t → k < width t → k ≢ c → slot_at (with_losses m t c) n k ≡ slot_at t n k
losses_other zero t c n k lc lk ne = refl
losses_other (suc m) t c n k lc lk ne =
    let w : width (with_losses m t c) ≡ width t = width-with_losses m t c in
    slot_other (with_losses m t c) m c n k (lost_of (slot_at (with_losses m t c) m c)) (omega arith) (omega arith) (λ e. ne e.1) ∙ losses_other m t c n k lc lk ne

pub put_column : (t : Table) (s c : ℕ) → IsTable t → TakesPut t s c → c < t.data_columns
put_column t s c h l = let q : c ≡ t.cursor.column = l.1 in let b : t.cursor.column < t.data_columns = h.cursor.column in omega arith

pub slots_stay : SlotsStay
slots_stay t (Put job s c digest parity_digest kept) n k h l lk apart =
    put_other t s c digest parity_digest kept l.1.0.1 (put_column t s c h l.1) h.size n k lk (λ e. apart (e.0, inl e.1)) (λ e. apart (e.0, inr (let q : k ≡ t.data_columns = e.1 in omega arith)))
slots_stay t (Put2 job s c digest parity_digest second_digest kept kept2) n k h l lk apart =
    put2_other t s c digest parity_digest second_digest kept kept2 l.1.0.1 (put_column t s c h l.1) h.size l.0 n k lk (λ e. apart (e.0, inr (let q : k ≡ t.data_columns + 1 = e.1 in omega arith)))
    ∙ put_other t s c digest parity_digest kept l.1.0.1 (put_column t s c h l.1) h.size n k lk (λ e. apart (e.0, inl e.1)) (λ e. apart (e.0, inr (let q : k ≡ t.data_columns = e.1 in omega arith)))
slots_stay t (Gone job s c) n k h l lk apart = slot_other t s c n k _ l.1 lk apart
slots_stay t (Broke job s c) n k h l lk apart = slot_other t s c n k _ l.1.1 lk apart
slots_stay t (Mended job s c) n k h l lk apart = slot_other t s c n k _ l.0.1 lk apart
slots_stay t (GaveUp job s c other) n k h l lk apart = slot_other t s other n k _ (gave_up_range t s c other l).1 lk apart
slots_stay t (Moved job s c true) n k h l lk apart = refl
slots_stay t (Moved job s c false) n k h l lk apart = slot_other t s c n k _ l.0.0 lk (λ e. apart (refl, e.0, e.1))
slots_stay t (Swapped job c to) n k h l lk apart = losses_other t.stripes t c n k l.0 lk apart
slots_stay t _ n k h l lk apart = refl

-- what was written of a slot keeps its digest
digest-lost : (x : SlotState) → digest_in (lost_of x) ≡ digest_in x
digest-lost Void = refl
digest-lost (Live d) = refl
digest-lost (Lost d) = refl
digest-lost (Broken d) = refl

digest-broken : (x : SlotState) → digest_in (broken_of x) ≡ digest_in x
digest-broken Void = refl
digest-broken (Live d) = refl
digest-broken (Lost d) = refl
digest-broken (Broken d) = refl

digest-live : (x : SlotState) → digest_in (live_of x) ≡ digest_in x
digest-live Void = refl
digest-live (Live d) = refl
digest-live (Lost d) = refl
digest-live (Broken d) = refl

digest_kept : (t : Table) (s c : ℕ) (x : SlotState) (n k : ℕ) → digest_in x ≡ digest_in (slot_at t s c) → digest_in (slot_at (with_slot t s c x) n k) ≡ digest_in (slot_at t n k)
digest_kept t s c x n k e =
    elim (slot_after t s c x n k) [ inl q ↦ ap digest_in q | inr q ↦ ap digest_in q.0 ∙ e ∙ sym (ap digest_in q.1) ]

digests_losses : (m : ℕ) (t : Table) (c n k : ℕ) → digest_in (slot_at (with_losses m t c) n k) ≡ digest_in (slot_at t n k)
digests_losses zero t c n k = refl
digests_losses (suc m) t c n k = digest_kept (with_losses m t c) m c _ n k (digest-lost (slot_at (with_losses m t c) m c)) ∙ digests_losses m t c n k

pub digests_stay : DigestsStay
digests_stay t (Put job s c digest parity_digest kept) n k h l lk apart = ap digest_in (slots_stay t (Put job s c digest parity_digest kept) n k h l lk (λ e. apart e.0))
digests_stay t (Put2 job s c digest parity_digest second_digest kept kept2) n k h l lk apart =
    ap digest_in (slots_stay t (Put2 job s c digest parity_digest second_digest kept kept2) n k h l lk (λ e. apart e.0))
digests_stay t (Gone job s c) n k h l lk apart = digest_kept t s c _ n k (digest-lost (slot_at t s c))
digests_stay t (Broke job s c) n k h l lk apart = digest_kept t s c _ n k (digest-broken (slot_at t s c))
digests_stay t (Mended job s c) n k h l lk apart = digest_kept t s c _ n k (digest-live (slot_at t s c))
digests_stay t (GaveUp job s c other) n k h l lk apart = digest_kept t s other _ n k (digest-lost (slot_at t s other))
digests_stay t (Moved job s c true) n k h l lk apart = refl
digests_stay t (Moved job s c false) n k h l lk apart = digest_kept t s c _ n k (digest-lost (slot_at t s c))
digests_stay t (Swapped job c to) n k h l lk apart = digests_losses t.stripes t c n k
digests_stay t _ n k h l lk apart = refl

-- the slot of the cursor is Void
cursor_void : (t : Table) (s c n k : ℕ) → IsTable t → TakesPut t s c → n ≡ s → k ≡ c → IsTrue (is_void (slot_at t n k))
cursor_void t s c n k h l e f =
    let column : c < t.data_columns = put_column t s c h l in
    let stripe : s < t.stripes = l.0.1 in
    let at : s ≡ t.cursor.stripe = l.0.0 in
    ap (λ j. is_void (slot_at t n j)) f ∙ ap (λ m. is_void (slot_at t m c)) (e ∙ at) ∙ h.voids.cursor c (omega arith) column ∙ reached t.cursor.column c (sym l.1)
  where
    reached : (a b : ℕ) → a ≡ b → nat_le a b ≡ true
    reached a b e = grind (arith, nat_tests)

pub data_stays : DataStays
data_stays t (Put job s c digest parity_digest kept) n k h l lk some = ap digest_in (slots_stay t (Put job s c digest parity_digest kept) n k h l (omega arith)
    (λ e. elim e.1 [ inl q ↦ both_ways _ some (cursor_void t s c n k h l.1 e.0 q) | inr q ↦ absurd (omega arith) ]))
data_stays t (Put2 job s c digest parity_digest second_digest kept kept2) n k h l lk some =
    ap digest_in (slots_stay t (Put2 job s c digest parity_digest second_digest kept kept2) n k h l (omega arith)
    (λ e. elim e.1 [ inl q ↦ both_ways _ some (cursor_void t s c n k h l.1 e.0 q) | inr q ↦ absurd (omega arith) ]))
data_stays t (Gone job s c) n k h l lk some = digests_stay t (Gone job s c) n k h l (omega arith) (λ e. e)
data_stays t (Broke job s c) n k h l lk some = digests_stay t (Broke job s c) n k h l (omega arith) (λ e. e)
data_stays t (Mended job s c) n k h l lk some = digests_stay t (Mended job s c) n k h l (omega arith) (λ e. e)
data_stays t (GaveUp job s c other) n k h l lk some = digests_stay t (GaveUp job s c other) n k h l (omega arith) (λ e. e)
data_stays t (Moved job s c copied) n k h l lk some = digests_stay t (Moved job s c copied) n k h l (omega arith) (λ e. e)
data_stays t (Swapped job c to) n k h l lk some = digests_stay t (Swapped job c to) n k h l (omega arith) (λ e. e)
data_stays t _ n k h l lk some = refl

-- a loss makes no slot Live
pub lost_is_not_live : (x : SlotState) → IsTrue (is_live (lost_of x)) → ⊥
lost_is_not_live Void e = cc
lost_is_not_live (Live d) e = cc
lost_is_not_live (Lost d) e = cc
lost_is_not_live (Broken d) e = cc

broken_is_not_live : (x : SlotState) → IsTrue (is_live (broken_of x)) → ⊥
broken_is_not_live Void e = cc
broken_is_not_live (Live d) e = cc
broken_is_not_live (Lost d) e = cc
broken_is_not_live (Broken d) e = cc

live_before : (t : Table) (s c : ℕ) (x : SlotState) (n k : ℕ) → (IsTrue (is_live x) → ⊥) → IsTrue (is_live (slot_at (with_slot t s c x) n k)) → IsTrue (is_live (slot_at t n k))
live_before t s c x n k dead e =
    elim (slot_after t s c x n k) [ inl q ↦ sym (ap is_live q) ∙ e | inr q ↦ absurd (dead (sym (ap is_live q.0) ∙ e)) ]

live_losses : (m : ℕ) (t : Table) (c n k : ℕ) → IsTrue (is_live (slot_at (with_losses m t c) n k)) → IsTrue (is_live (slot_at t n k))
live_losses zero t c n k e = e
live_losses (suc m) t c n k e = live_losses m t c n k (live_before (with_losses m t c) m c _ n k (lost_is_not_live (slot_at (with_losses m t c) m c)) e)

pub live_by_put : LiveByPut
live_by_put t (Put job s c digest parity_digest kept) n k h l lk e = elim (cases_eq n s) [
  | inl q ↦ inr q
  | inr ne ↦ inl (sym (ap is_live (slots_stay t (Put job s c digest parity_digest kept) n k h l lk (λ w. ne w.0))) ∙ e)
]
live_by_put t (Put2 job s c digest parity_digest second_digest kept kept2) n k h l lk e = elim (cases_eq n s) [
  | inl q ↦ inr q
  | inr ne ↦ inl (sym (ap is_live (slots_stay t (Put2 job s c digest parity_digest second_digest kept kept2) n k h l lk (λ w. ne w.0))) ∙ e)
]
live_by_put t (Gone job s c) n k h l lk e = inl (live_before t s c _ n k (lost_is_not_live (slot_at t s c)) e)
live_by_put t (Broke job s c) n k h l lk e = inl (live_before t s c _ n k (broken_is_not_live (slot_at t s c)) e)
live_by_put t (Mended job s c) n k h l lk e = elim (cases_eq n s) [
  | inl q ↦ elim (cases_eq k c) [
    | inl r ↦ inr (q, r)
    | inr ne ↦ inl (sym (ap is_live (slots_stay t (Mended job s c) n k h l lk (λ w. ne w.1))) ∙ e)
  ]
  | inr ne ↦ inl (sym (ap is_live (slots_stay t (Mended job s c) n k h l lk (λ w. ne w.0))) ∙ e)
]
live_by_put t (GaveUp job s c other) n k h l lk e = inl (live_before t s other _ n k (lost_is_not_live (slot_at t s other)) e)
live_by_put t (Moved job s c true) n k h l lk e = inl e
live_by_put t (Moved job s c false) n k h l lk e = inl (live_before t s c _ n k (lost_is_not_live (slot_at t s c)) e)
live_by_put t (Swapped job c to) n k h l lk e = inl (live_losses t.stripes t c n k e)
live_by_put t _ n k h l lk e = inl e

-- the rules, along a log
pub rules_stay : RulesStay
rules_stay t u [] h r = subst (λ v. IsTable v) (sym r) h
rules_stay t u (e ∷ log) h r = rules_stay (after t e) u log (after_keeps t e h r.0) r.1

pub logs_went_on : LogsWentOn
logs_went_on t v [] e r = (t, refl, r.0, r.1)
logs_went_on t v (x ∷ log) e r =
    let rest : (u : Table) × Replays (after t x) log u × Legal u e × (v ≡ after u e) = logs_went_on (after t x) v log e r.1 in
    (rest.0, (r.0, rest.1), rest.2, rest.3)

pub parity_void : ParityVoid
parity_void t s c h ls lw lc =
    let one : 1 ≤ t.data_columns = h.size.data_columns.0 in (
      λ v k lk. h.voids.first s 0 k ls (omega arith) lk (sym (h.voids.parity s c ls lw lc) ∙ v),
      λ all. h.voids.parity s c ls lw lc ∙ all 0 (omega arith),
    )
