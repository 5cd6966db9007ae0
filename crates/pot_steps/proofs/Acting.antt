-- Each entry keeps the law of every stripe and of every flight.
use Rattle.std.proofs.Common.{◌≡◌, ◌≢◌, ◌⊎◌, inl, inr, ℕ, zero, suc, ◌+◌, ◌<◌, ◌≤◌, Bool, true, false, not, IsTrue, IsSomeAnd, Option, Some, None, List, [], ◌∷◌, ◌++◌, All, cond, length, ◌&&◌, map, get_or, refl, sym, ap, ap₂, ◌∙◌, subst, arith, nat_lt, if◌then◌else◌}
use Rattle.std.specs.Prelude.{find, ◌==◌, slice_index}
use Rattle.std.proofs.lemmas.Bool.Decides.{nat_tests}
use Rattle.std.proofs.lemmas.List.Elements.{All-head, All-tail}
use Rattle.std.proofs.lemmas.Nat.{xor_of_8}
use Rattle.pot_bytes.specs.declared.digest.Digest.{Digest}
use Rattle.pot_bytes.specs.Sums.{xor}
use Rattle.pot_bytes.specs.Weighted.{scaled}
use Rattle.pot_bytes.proofs.ProductLemmas.{byte_product-below}
use Rattle.pot_machine.specs.declared.slot.SlotState.{SlotState}
use Rattle.pot_machine.specs.declared.slot.SlotState.TheVariants.{Void, Live, Lost, Broken}
use Rattle.pot_machine.specs.declared.column.Column.{Column}
use Rattle.pot_machine.specs.declared.column.Moving.{Moving}
use Rattle.pot_machine.specs.declared.relay.Relay.{Relay}
use Rattle.pot_machine.specs.declared.entry.Entry.{Entry}
use Rattle.pot_machine.specs.declared.entry.Entry.TheVariants.{Put, Skip, Seen, Gone, Broke, Fault, Begin, Hop, Mended, GaveUp, Oddly, Stuck, MoveBegin, Moved, MoveEnd, Swapped, Counted, Put2}
use Rattle.pot_machine.specs.Slot.{digest_in, is_live, is_lost, is_broken, lost_of, live_of}
use Rattle.pot_machine.specs.Column.{serving, serving_moved}
use Rattle.pot_machine.specs.Table.{Table, width, slot_at, column_at, serving_at, relay_at, next_column, no_column, first_beside}
use Rattle.pot_machine.specs.Machine.{Legal, after, with_loss, with_losses, with_column, moved_on, moved_home, TakesRelay}
use Rattle.pot_machine.specs.Rules.{IsTable, IsStanding}
use Rattle.std.proofs.lemmas.List.{get_or-set_same}
use Rattle.std.proofs.lemmas.Bool.{cases_eq}
use Rattle.pot_machine.proofs.Columns.{column_same, column_other}
use Rattle.pot_machine.proofs.Kept.{after_keeps}
use Rattle.pot_machine.proofs.Kept as kept
use Rattle.pot_machine.proofs.LeftAlone.{sizes_stay, slots_stay, columns_stay, lost_is_not_live}
use Rattle.pot_machine.proofs.Places.{slot_after, slot_same, slot_other}
use Rattle.pot_machine.proofs.Searches.{least_none}
use Rattle.pot_machine.proofs.Sizes.{width-with_losses, stripes-with_losses}
use Rattle.pot_bytes.specs.Lists.{IsBlock}
use Rattle.pot_bytes.specs.Digests.{digest_of}
use Rattle.pot_steps.specs.Stripe.{Stripe, IsSound, NoneBroken}
use Rattle.pot_steps.specs.Law.{StripeLaw, Worse, Repairs, lost_count}
use Rattle.pot_steps.specs.declared.flight.Flight.{Flight}
use Rattle.pot_steps.specs.Flight.{FlightLaw, weight, weight_in, left_out, partial_of}
use Rattle.pot_steps.specs.Flight as flight
use Rattle.pot_steps.specs.Holdings.{Holdings, StripesConsistent, stripe_of}
use Rattle.pot_steps.specs.Entries.{held_at, LosesAtLive}
use Rattle.pot_steps.specs.Flights.{Acts, ActKeeps, LossKeepsAll, AreFlights, FliesOver, IsFlying, Stands, FoldsIn, WritesBack, Copies, begun, flight_in, flights_after, flown}
use Rattle.pot_steps.proofs.BlockLemmas.{IsBlock-xor, IsBlock-scaled}
use Rattle.pot_steps.proofs.Changes.{LostOrSame, worse_after, live_before}
use Rattle.pot_steps.proofs.Entries.{entry_keeps, entry_keeps_flight}
use Rattle.pot_steps.proofs.FlightLists.{relay_of, flights_go_on, relay_of_flight, no_flight, flight_of_relay, over_stripe, begun_here, flown_in, flown_here, ended_here, flights_stay, goes_on}
use Rattle.pot_steps.proofs.RepairLaw.{mended_keeps}
use Rattle.pot_steps.proofs.Solved.{grown}
use Rattle.pot_steps.proofs.Solved as solved
use Rattle.pot_steps.proofs.Standing.{next_is_next, none_is_no_next, standing_is_relay, begin_has_few}
use Rattle.pot_steps.proofs.Steps.{worse_keeps, worse_keeps_flight, begin_keeps, hop_keeps}
use Rattle.pot_steps.proofs.Put.{not_void}

-- ONE STRIPE

-- the law of a stripe and of the flight over it
abbrev pub Good : ℕ → ℕ → Stripe → Option Flight → Type 0
Good data_columns parity s o = StripeLaw data_columns parity s (relay_of o) × FliesOver data_columns parity s o

module _ (data_columns parity : ℕ) (s s' : Stripe) (w : Worse data_columns parity s s')
    (back : (c : ℕ) (d : Digest) → c < data_columns + parity → s'.slots c ≡ Broken d → s.slots c ≡ Broken d) where
  pub flies_on : (f : Flight) → IsFlying data_columns parity s f → IsFlying data_columns parity s' f
  flies_on f x = record {
    blind = x.blind;
    sum = x.sum;
    beside = λ c d lt ne e. x.beside c d lt ne (back c d lt e);
    unbroken = λ two c d lt e. x.unbroken two c d lt (back c d lt e);
    law = worse_keeps_flight data_columns parity s s' f.relay (partial_of f) w x.law;
  }

  flies : (o : Option Flight) → FliesOver data_columns parity s o → FliesOver data_columns parity s' o
  flies None x = tt
  flies (Some f) x = flies_on f x

  stays : (o : Option Flight) → Good data_columns parity s o → Good data_columns parity s' o
  stays o x = (worse_keeps data_columns parity s s' (relay_of o) (relay_of o) w (λ e. e) x.0, flies o x.1)

  ends : (o : Option Flight) → Good data_columns parity s o → Good data_columns parity s' None
  ends o x = (worse_keeps data_columns parity s s' (relay_of o) None w (λ e. absurd (e refl)) x.0, tt)

  pub lessened : (o o' : Option Flight) → (o' ≡ o) ⊎ (o' ≡ None) → Good data_columns parity s o → Good data_columns parity s' o'
  lessened o o' (inl e) x = subst (λ p. Good data_columns parity s' p) (sym e) (stays o x)
  lessened o o' (inr e) x = subst (λ p. Good data_columns parity s' p) (sym e) (ends o x)

pub broken_before : (x y : SlotState) (d : Digest) → LostOrSame x y → y ≡ Broken d → x ≡ Broken d
broken_before x y d (inl e) h = sym e ∙ h
broken_before Void y d (inr e) h = absurd (no (sym e ∙ h))
  where
    no : Void ≡ Broken d → ⊥
    no e = cc
broken_before (Live x) y d (inr e) h = absurd (no (sym e ∙ h))
  where
    no : Lost x ≡ Broken d → ⊥
    no e = cc
broken_before (Lost x) y d (inr e) h = absurd (no (sym e ∙ h))
  where
    no : Lost x ≡ Broken d → ⊥
    no e = cc
broken_before (Broken x) y d (inr e) h = sym e ∙ h

lost_twice : (x y z : SlotState) → LostOrSame x y → LostOrSame y z → LostOrSame x z
lost_twice x y z (inl e) (inl f) = inl (f ∙ e)
lost_twice x y z (inl e) (inr f) = inr (f ∙ ap lost_of e)
lost_twice x y z (inr e) (inl f) = inr (f ∙ e)
lost_twice x y z (inr e) (inr f) = inr (f ∙ ap lost_of e ∙ again x)
  where
    again : (x : SlotState) → lost_of (lost_of x) ≡ lost_of x
    again Void = refl
    again (Live d) = refl
    again (Lost d) = refl
    again (Broken d) = refl

-- ENTRIES AFTER WHICH EACH SLOT IS AS IT WAS OR LOST

abbrev pub Lessens : Entry → Type 0
Lessens (Put job s c digest parity_digest kept) = ⊥
Lessens (Put2 job s c digest parity_digest second_digest kept kept2) = ⊥
Lessens (Broke job s c) = ⊥
Lessens (Mended job s c) = ⊥
Lessens (Moved job s c true) = ⊥
Lessens _ = Unit {0}

losses_less : (m : ℕ) (t : Table) (c n k : ℕ) → LostOrSame (slot_at t n k) (slot_at (with_losses m t c) n k)
losses_less zero t c n k = inl refl
losses_less (suc m) t c n k = lost_twice (slot_at t n k) (slot_at (with_losses m t c) n k) (slot_at (with_losses (suc m) t c) n k) (losses_less m t c n k) (loss_less (with_losses m t c) m c n k)
  where
    loss_less : (t : Table) (s c n k : ℕ) → LostOrSame (slot_at t n k) (slot_at (with_loss t s c) n k)
    loss_less t s c n k = elim (slot_after t s c (lost_of (slot_at t s c)) n k) [ inl e ↦ inl e | inr e ↦ inr (e.0 ∙ sym (ap lost_of e.1)) ]

loss_less : (t : Table) (s c n k : ℕ) → LostOrSame (slot_at t n k) (slot_at (with_loss t s c) n k)
loss_less t s c n k = elim (slot_after t s c (lost_of (slot_at t s c)) n k) [ inl e ↦ inl e | inr e ↦ inr (e.0 ∙ sym (ap lost_of e.1)) ]

pub slots_less : (t : Table) (e : Entry) (n k : ℕ) → Lessens e → LostOrSame (slot_at t n k) (slot_at (after t e) n k)
slots_less t (Put job s c digest parity_digest kept) n k l = absurd l
slots_less t (Put2 job s c digest parity_digest second_digest kept kept2) n k l = absurd l
slots_less t (Broke job s c) n k l = absurd l
slots_less t (Mended job s c) n k l = absurd l
slots_less t (Gone job s c) n k l = loss_less t s c n k
slots_less t (GaveUp job s c other) n k l = loss_less t s other n k
slots_less t (Moved job s c true) n k l = absurd l
slots_less t (Moved job s c false) n k l = loss_less t s c n k
slots_less t (Swapped job c to) n k l = losses_less t.stripes t c n k
slots_less t _ n k l = inl refl

-- LIVE SLOTS AND THE ARCHIVES THAT SERVE THEM

losses_dead : (m : ℕ) (t : Table) (c n : ℕ) → IsTable t → m ≤ t.stripes → c < width t → n < m → IsTrue (is_live (slot_at (with_losses m t c) n c)) → ⊥
losses_dead zero t c n h le lc lt e = absurd (omega arith)
losses_dead (suc m) t c n h le lc lt e = elim (cases_eq n m) [
  | inl q ↦ lost_is_not_live (slot_at (with_losses m t c) m c) (sym (ap is_live (ap (λ j. slot_at (with_losses (suc m) t c) j c) q ∙ written)) ∙ e)
  | inr ne ↦ losses_dead m t c n h (omega arith) lc (omega arith) (sym (ap is_live (slot_other (with_losses m t c) m c n c (lost_of (slot_at (with_losses m t c) m c)) wide wide (λ q. ne q.0))) ∙ e)
]
  where
    wide : c < width (with_losses m t c)
    wide = let w : width (with_losses m t c) ≡ width t = width-with_losses m t c in omega arith

    slots : (m : ℕ) (t : Table) (c : ℕ) → IsTable t → IsTable (with_losses m t c)
    slots m t c h = kept.losses_keep m t c h

    written : slot_at (with_losses (suc m) t c) m c ≡ lost_of (slot_at (with_losses m t c) m c)
    written = slot_same (with_losses m t c) m c (lost_of (slot_at (with_losses m t c) m c)) (slots m t c h).size.slots (let e : (with_losses m t c).stripes ≡ t.stripes = stripes-with_losses m t c in omega arith) wide

-- a column after an entry serves a stripe by the archive that served it before
begin_serves : (x : Column) (to n : ℕ) → x.moving ≡ None → serving (record x { moving = Some (record { to = to; upto = 0 }) }) n ≡ serving x n
begin_serves x to n e = below n to x.home ∙ sym (ap (λ o. serving_moved o x.home n) e)
  where
    below : (n a b : ℕ) → (if nat_lt n 0 then a else b) ≡ b
    below n a b = grind (arith, nat_tests)

moved_serves : (home : ℕ) (o : Option Moving) (s n : ℕ) → IsSomeAnd o (λ m. m.upto ≡ s) → n ≢ s → serving (moved_on (record { home = home; moving = o })) n ≡ serving_moved o home n
moved_serves home None s n at ne = absurd at
moved_serves home (Some m) s n at ne = beside n m.upto m.to home s at ne
  where
    beside : (n u a b s : ℕ) → u ≡ s → n ≢ s → (if nat_lt n (u + 1) then a else b) ≡ (if nat_lt n u then a else b)
    beside n u a b s e ne = grind (arith, nat_tests)

home_serves : (home : ℕ) (o : Option Moving) (z n : ℕ) → IsSomeAnd o (λ m. m.upto ≡ z) → n < z → serving (moved_home (record { home = home; moving = o })) n ≡ serving_moved o home n
home_serves home None z n at lt = absurd at
home_serves home (Some m) z n at lt = sym (below n m.upto m.to home z at lt)
  where
    below : (n u a b z : ℕ) → u ≡ z → n < z → (if nat_lt n u then a else b) ≡ a
    below n u a b z e lt = grind (arith, nat_tests)

serving_changed : (t u : Table) (c n k : ℕ) (x : Column) → column_at u c ≡ x → ((k : ℕ) → k ≢ c → column_at u k ≡ column_at t k) → serving x n ≡ serving_at t n c → serving_at u n k ≡ serving_at t n k
serving_changed t u c n k x here other e = elim (cases_eq k c) [
  | inl q ↦ subst (λ k. serving_at u n k ≡ serving_at t n k) (sym q) (ap (λ y. serving y n) here ∙ e)
  | inr ne ↦ ap (λ y. serving y n) (other k ne)
]

moved_beside : (t v : Table) (c n k : ℕ) → (v.columns ≡ t.columns) → k ≢ c → serving_at (with_column v c (moved_on (column_at t c))) n k ≡ serving_at t n k
moved_beside t v c n k same ne = ap (λ y. serving y n) (column_other v c k _ ne ∙ ap (λ cs. get_or cs k no_column) same)

-- a move that goes on changes the archive of the slot alone that it has come to
pub moved_other : (t v : Table) (c s n k : ℕ) → (v.columns ≡ t.columns) → length t.columns ≡ width t → c < width t → IsSomeAnd (column_at t c).moving (λ m. m.upto ≡ s) → (n ≢ s) ⊎ (k ≢ c)
    → serving_at (with_column v c (moved_on (column_at t c))) n k ≡ serving_at t n k
moved_other t v c s n k same sized lc at (inr ne) = moved_beside t v c n k same ne
moved_other t v c s n k same sized lc at (inl ne) = elim (cases_eq k c) [
  | inl q ↦ subst (λ k. serving_at (with_column v c (moved_on (column_at t c))) n k ≡ serving_at t n k) (sym q)
      (ap (λ y. serving y n) (get_or-set_same v.columns c (moved_on (column_at t c)) no_column (let e : length v.columns ≡ length t.columns = ap length same in omega arith))
      ∙ moved_serves (column_at t c).home (column_at t c).moving s n at ne)
  | inr d ↦ moved_beside t v c n k same d
]

-- the archive that serves a slot that is Live afterwards
pub serving_same : (t : Table) (e : Entry) (n k : ℕ) → IsTable t → Legal t e → n < t.stripes → k < width t → Lessens e
    → IsTrue (is_live (slot_at (after t e) n k)) → serving_at (after t e) n k ≡ serving_at t n k
serving_same t (Put job s c digest parity_digest kept) n k h l ln lk less live = absurd less
serving_same t (Put2 job s c digest parity_digest second_digest kept kept2) n k h l ln lk less live = absurd less
serving_same t (Broke job s c) n k h l ln lk less live = absurd less
serving_same t (Mended job s c) n k h l ln lk less live = absurd less
serving_same t (MoveBegin job c to) n k h l ln lk less live =
    serving_changed t (after t (MoveBegin job c to)) c n k _ (column_same t c _ h.size.columns l.0.0) (λ k ne. column_other t c k _ ne) (begin_serves (column_at t c) to n l.1)
serving_same t (Moved job s c true) n k h l ln lk less live = absurd less
serving_same t (Moved job s c false) n k h l ln lk less live = elim (cases_eq n s) [
  | inl e ↦ elim (cases_eq k c) [
    | inl f ↦ absurd (lost_is_not_live (slot_at t s c) (sym (ap is_live (slot_same t s c (lost_of (slot_at t s c)) h.size.slots l.1 l.0.0))
        ∙ sym (ap₂ (λ n k. is_live (slot_at (with_loss t s c) n k)) e f) ∙ live))
    | inr ne ↦ moved_other t (with_loss t s c) c s n k refl h.size.columns l.0.0 l.0.1 (inr ne)
  ]
  | inr ne ↦ moved_other t (with_loss t s c) c s n k refl h.size.columns l.0.0 l.0.1 (inl ne)
]
serving_same t (MoveEnd job c) n k h l ln lk less live =
    serving_changed t (after t (MoveEnd job c)) c n k _ (column_same t c _ h.size.columns l.0) (λ k ne. column_other t c k _ ne) (home_serves (column_at t c).home (column_at t c).moving t.stripes n l.1 ln)
serving_same t (Swapped job c to) n k h l ln lk less live = elim (cases_eq k c) [
  | inl f ↦ absurd (losses_dead t.stripes t c n h (omega arith) l.0 ln (subst (λ j. IsTrue (is_live (slot_at (with_losses t.stripes t c) n j))) f live))
  | inr ne ↦ ap (λ y. serving y n) (columns_stay t (Swapped job c to) k ne)
]
serving_same t _ n k h l ln lk less live = refl

-- WHAT IS HELD AT LIVE SLOTS

loses_by : (t : Table) (e : Entry) (flights : List Flight) (given : List ℕ) (h h' : Holdings) → Lessens e → Acts t flights given e h h' → LosesAtLive t h h'
loses_by t (Put job s c digest parity_digest kept) flights given h h' less acts = absurd less
loses_by t (Put2 job s c digest parity_digest second_digest kept kept2) flights given h h' less acts = absurd less
loses_by t (Broke job s c) flights given h h' less acts = absurd less
loses_by t (Mended job s c) flights given h h' less acts = absurd less
loses_by t (Begin job s c) flights given h h' less acts = acts.1
loses_by t (Hop job s c) flights given h h' less acts = acts.1
loses_by t (Moved job s c true) flights given h h' less acts = absurd less
loses_by t (Moved job s c false) flights given h h' less acts = acts
loses_by t (Skip job s) flights given h h' less acts = acts
loses_by t (Seen job s c) flights given h h' less acts = acts
loses_by t (Gone job s c) flights given h h' less acts = acts
loses_by t (Fault job s c) flights given h h' less acts = acts
loses_by t (GaveUp job s c other) flights given h h' less acts = acts
loses_by t (Oddly job s c found) flights given h h' less acts = acts
loses_by t (Stuck job s c other) flights given h h' less acts = acts
loses_by t (MoveBegin job c to) flights given h h' less acts = acts
loses_by t (MoveEnd job c) flights given h h' less acts = acts
loses_by t (Swapped job c to) flights given h h' less acts = acts
loses_by t (Counted job) flights given h h' less acts = acts

-- the stripe after such an entry
worse_by : (t : Table) (e : Entry) (flights : List Flight) (given : List ℕ) (h h' : Holdings) (n : ℕ) → IsTable t → Legal t e → Lessens e → Acts t flights given e h h' → n < t.stripes
    → Worse t.data_columns t.parity (stripe_of t h n) (stripe_of (after t e) h' n)
worse_by t e flights given h h' n table legal less acts ln = worse_after t.data_columns t.parity (stripe_of t h n) (stripe_of (after t e) h' n)
    (λ k lk. slots_less t e n k less)
    (λ k b lk live held. loses_by t e flights given h h' less acts n k b ln lk (live_before (slot_at t n k) (slot_at (after t e) n k) (slots_less t e n k less) live)
    (ap (λ a. h' a n) (sym (serving_same t e n k table legal ln lk less live)) ∙ held))

unbroken_by : (t : Table) (u : Table) (h h' : Holdings) (n : ℕ) → ((k : ℕ) → k < width t → LostOrSame (slot_at t n k) (slot_at u n k))
    → (k : ℕ) (d : Digest) → k < width t → slot_at u n k ≡ Broken d → slot_at t n k ≡ Broken d
unbroken_by t u h h' n slots k d lk e = broken_before (slot_at t n k) (slot_at u n k) d (slots k lk) e

-- a copy
copied : (t : Table) (job s c : ℕ) (h h' : Holdings) (n : ℕ) → IsTable t → Legal t (Moved job s c true) → Copies t (after t (Moved job s c true)) h h' s c → n < t.stripes
    → Worse t.data_columns t.parity (stripe_of t h n) (stripe_of (after t (Moved job s c true)) h' n)
copied t job s c h h' n table legal copies ln = worse_after t.data_columns t.parity (stripe_of t h n) (stripe_of (after t (Moved job s c true)) h' n)
    (λ k lk. inl refl) (λ k b lk live held. elim (cases_eq n s) [
      | inl p ↦ elim (cases_eq k c) [
        | inl q ↦ ap₂ (λ n k. held_at t h n k) p q ∙ copies.sound.held ∙ sym copies.written ∙ sym (ap₂ (λ n k. held_at (after t (Moved job s c true)) h' n k) p q) ∙ held
        | inr ne ↦ beside k lk (inr ne) ∙ held
      ]
      | inr ne ↦ beside k lk (inl ne) ∙ held
    ])
  where
    beside : (k : ℕ) → k < width t → (n ≢ s) ⊎ (k ≢ c) → held_at t h n k ≡ held_at (after t (Moved job s c true)) h' n k
    beside k lk apart = sym (copies.others n k ln lk apart) ∙ ap (λ a. h' a n) (sym (moved_other t t c s n k refl table.size.columns legal.0.0 legal.0.1 apart))

-- WHICH FLIGHTS STAY

abbrev EndsOrStays : Entry → Type 0
EndsOrStays (Begin job s c) = ⊥
EndsOrStays (Hop job s c) = ⊥
EndsOrStays _ = Unit {0}

abbrev StaysOrEnds : List Flight → List Flight → ℕ → Type 0
StaysOrEnds old new n = (flight_in new n ≡ flight_in old n) ⊎ (flight_in new n ≡ None)

less_flight : (t : Table) (e : Entry) (given : List ℕ) (flights : List Flight) (n : ℕ) → EndsOrStays e → StaysOrEnds flights (flights_after t e given flights) n
less_flight t (Begin job s c) given flights n l = absurd l
less_flight t (Hop job s c) given flights n l = absurd l
less_flight t (Mended job s c) given flights n l = elim (cases_eq n s) [ inl q ↦ inr (ap (flight_in (flights_after t (Mended job s c) given flights)) q ∙ ended_here flights s) | inr ne ↦ inl (flights_stay t (Mended job s c) given flights n ne) ]
less_flight t (GaveUp job s c other) given flights n l = elim (cases_eq n s) [ inl q ↦ inr (ap (flight_in (flights_after t (GaveUp job s c other) given flights)) q ∙ ended_here flights s) | inr ne ↦ inl (flights_stay t (GaveUp job s c other) given flights n ne) ]
less_flight t (Oddly job s c found) given flights n l = elim (cases_eq n s) [ inl q ↦ inr (ap (flight_in (flights_after t (Oddly job s c found) given flights)) q ∙ ended_here flights s) | inr ne ↦ inl (flights_stay t (Oddly job s c found) given flights n ne) ]
less_flight t _ given flights n l = inl refl

-- EACH ENTRY, STRIPE BY STRIPE

good_at : (t : Table) (h : Holdings) (flights : List Flight) (n : ℕ) → Stands t h flights → n < t.stripes → Good t.data_columns t.parity (stripe_of t h n) (flight_in flights n)
good_at t h flights n x ln = (subst (λ o. StripeLaw t.data_columns t.parity (stripe_of t h n) o) (relay_of_flight t flights n x.relays) (x.holds n ln), x.flying n ln)

-- an entry after which each slot is as it was or Lost, and the flight stays or ends
good_less : (t : Table) (e : Entry) (flights : List Flight) (given : List ℕ) (h h' : Holdings) (n : ℕ) → Legal t e → Acts t flights given e h h' → Stands t h flights → n < t.stripes → Lessens e
    → StaysOrEnds flights (flights_after t e given flights) n → Good t.data_columns t.parity (stripe_of (after t e) h' n) (flight_in (flights_after t e given flights) n)
good_less t e flights given h h' n legal acts x ln less stays = lessened t.data_columns t.parity (stripe_of t h n) (stripe_of (after t e) h' n)
    (worse_by t e flights given h h' n x.table legal less acts ln) (unbroken_by t (after t e) h h' n (λ k lk. slots_less t e n k less))
    (flight_in flights n) (flight_in (flights_after t e given flights) n) stays (good_at t h flights n x ln)

-- a relay begins
lost_unbroken : (x : SlotState) (d : Digest) → IsTrue (is_lost x) → x ≡ Broken d → ⊥
lost_unbroken Void d l e = absurd (cc)
lost_unbroken (Live x) d l e = absurd (cc)
lost_unbroken (Lost x) d l e = no e
  where
    no : Lost x ≡ Broken d → ⊥
    no e = cc
lost_unbroken (Broken x) d l e = absurd (cc)

not_broken : (x : SlotState) (d : Digest) → is_broken x ≡ false → x ≡ Broken d → ⊥
not_broken x d f e = no (sym f ∙ ap is_broken e)
  where
    no : false ≡ true → ⊥
    no e = cc

begin_beside : (t : Table) (s c : ℕ) → TakesRelay t s c → (k : ℕ) (d : Digest) → k < width t → k ≢ c → slot_at t s k ≡ Broken d → ⊥
begin_beside t s c takes k d lk ne e = not_broken (slot_at t s k) d (beside k c (is_broken (slot_at t s k)) ne (least_none (width t) (λ j. not (j == c) && is_broken (slot_at t s j)) takes.3 k lk)) e
  where
    beside : (k c : ℕ) (b : Bool) → k ≢ c → not (k == c) && b ≡ false → b ≡ false
    beside k c true ne h = grind (arith, nat_tests)
    beside k c false ne h = refl

begin_unbroken : (t : Table) (h : Holdings) (s c : ℕ) → TakesRelay t s c → t.parity ≡ 2 → NoneBroken t.data_columns t.parity (stripe_of t h s)
begin_unbroken t h s c takes two k d lk e = elim (cases_eq k c) [
  | inl q ↦ lost_unbroken (slot_at t s c) d (elim takes.1 [ inl l ↦ l | inr b ↦ absurd (let one : t.parity ≡ 1 = b.1 in omega arith) ]) (sym (ap (λ k. slot_at t s k) q) ∙ e)
  | inr ne ↦ begin_beside t s c takes k d lk ne e
]

good_begin : (t : Table) (job s c : ℕ) (flights : List Flight) (given : List ℕ) (h h' : Holdings) (n : ℕ) → TakesRelay t s c → IsBlock given → LosesAtLive t h h' → Stands t h flights → n < t.stripes
    → Good t.data_columns t.parity (stripe_of t h' n) (flight_in (flights ++ begun t s c given ∷ []) n)
good_begin t job s c flights given h h' n takes block loses x ln = elim (cases_eq n s) [
  | inl q ↦ subst (λ n. Good t.data_columns t.parity (stripe_of t h' n) (flight_in (flights ++ begun t s c given ∷ []) n)) (sym q)
      (subst (λ o. Good t.data_columns t.parity (stripe_of t h' s) o) (sym (begun_here flights (begun t s c given) none)) (
        (λ unbroken some. law unbroken (inr few)),
        record {
          blind = block;
          sum = block;
          beside = λ k d lk ne. begin_beside t s c takes k d lk ne;
          unbroken = λ two. begin_unbroken t h' s c takes two;
          law = subst (λ p. FlightLaw t.data_columns t.parity (stripe_of t h' s) (begun t s c given).relay p) (sym (solved.begun given block))
              (begin_keeps t.data_columns t.parity (stripe_of t h' s) s c (first_beside t s c is_lost) law few);
        },
      ))
  | inr ne ↦ good_less t (Begin job s c) flights given h h' n takes (block, loses) x ln tt (inl (flights_stay t (Begin job s c) given flights n ne))
]
  where
    none : flight_in flights s ≡ None
    none = no_flight t flights s x.relays takes.2

    few : lost_count t.data_columns t.parity (stripe_of t h' s) ≤ t.parity
    few = begin_has_few t h' s c takes

    law : StripeLaw t.data_columns t.parity (stripe_of t h' s) None
    law = worse_keeps t.data_columns t.parity (stripe_of t h s) (stripe_of t h' s) None None
        (worse_by t (Begin job s c) flights given h h' s x.table takes tt (block, loses) takes.0.0) (λ e. e)
        (subst (λ o. StripeLaw t.data_columns t.parity (stripe_of t h s) o) takes.2 (x.holds s takes.0.0))

-- a relay goes on
pub weight-below : (data_columns t u c : ℕ) → weight data_columns t u c < 256
unfolding weight
weight-below data_columns t u c = xor_of_8 _ _ (byte_product-below _ _) (byte_product-below _ _)

pub is_some : (a b : Flight) → Some a ≡ Some b → a ≡ b
is_some a b e = cc

hop_flies : (t : Table) (job s c : ℕ) (flights : List Flight) (given : List ℕ) (h : Holdings) (f : Flight) → f.relay.stripe ≡ s → next_column t f.relay ≡ Some c → FoldsIn t h f c given
    → IsFlying t.data_columns t.parity (stripe_of t h s) f → IsFlying t.data_columns t.parity (stripe_of t h s) (flown s c given f)
hop_flies t job s c flights given h f over next folds x =
    subst (λ g. IsFlying t.data_columns t.parity (stripe_of t h s) g) (sym (flown_here f s c given over)) record {
      blind = x.blind;
      sum = whole;
      beside = x.beside;
      unbroken = x.unbroken;
      law = hop_keeps t.data_columns t.parity (stripe_of t h s) f.relay c folds.block (partial_of f) (xor given f.blind)
          (subst (λ n. flight.IsNext t.data_columns t.parity (stripe_of t h n) f.relay c) over (next_is_next t h f.relay c next))
          (subst (λ n. IsSound (stripe_of t h n) c folds.block) over folds.sound) folds.is_block (IsBlock-xor given f.blind whole x.blind)
          (λ k. ap (λ z. slice_index (xor z f.blind) k) folds.grows ∙ grown f.sum f.blind folds.block (weight_in t.data_columns f.relay c) k x.sum x.blind folds.is_block
          (weight-below t.data_columns f.relay.target (left_out t.data_columns f.relay.target f.relay.skip) c))
          x.law;
    }
  where
    whole : IsBlock given
    whole = subst (λ z. IsBlock z) (sym folds.grows) (IsBlock-xor f.sum (scaled (weight_in t.data_columns f.relay c) folds.block) x.sum (IsBlock-scaled (weight_in t.data_columns f.relay c) folds.block folds.is_block))

good_hop : (t : Table) (job s c : ℕ) (flights : List Flight) (given : List ℕ) (h h' : Holdings) (n : ℕ) → Legal t (Hop job s c) → Acts t flights given (Hop job s c) h h' → Stands t h flights → n < t.stripes
    → Good t.data_columns t.parity (stripe_of t h' n) (flight_in (map (flown s c given) flights) n)
good_hop t job s c flights given h h' n legal acts x ln = elim (cases_eq n s) [
  | inl q ↦ subst (λ n. Good t.data_columns t.parity (stripe_of t h' n) (flight_in (map (flown s c given) flights) n)) (sym q)
      (subst (λ o. Good t.data_columns t.parity (stripe_of t h' s) o) (sym (flown_in flights s c s given))
      (here (flight_in flights s) refl acts.0 (relay_at t s) refl legal.1 (good_at t h flights s x legal.0.0)))
  | inr ne ↦ good_less t (Hop job s c) flights given h h' n legal acts x ln tt (inl (flights_stay t (Hop job s c) given flights n ne))
]
  where
    here : (o : Option Flight) → flight_in flights s ≡ o → IsSomeAnd o (λ f. FoldsIn t h f c given) → (r : Option Relay) → relay_at t s ≡ r → IsSomeAnd r (λ r. next_column t r ≡ Some c)
        → Good t.data_columns t.parity (stripe_of t h s) o → Good t.data_columns t.parity (stripe_of t h' s) (goes_on s c given o)
    here None e folds r er next good = absurd folds
    here (Some f) e folds None er next good = absurd next
    here (Some f) e folds (Some r) er next good =
        let same : (f : Flight) × (flight_in flights s ≡ Some f) × (f.relay ≡ r) = flight_of_relay t flights s r x.relays er in
        let relay : f.relay ≡ r = ap (λ (g : Flight). g.relay) (is_some f same.0 (sym e ∙ same.1)) ∙ same.2 in
        lessened t.data_columns t.parity (stripe_of t h s) (stripe_of t h' s) (worse_by t (Hop job s c) flights given h h' s x.table legal tt acts legal.0.0)
        (unbroken_by t t h h' s (λ k lk. inl refl)) (Some (flown s c given f)) (Some (flown s c given f)) (inl refl) (
          (λ unbroken some. good.0 unbroken (inl (some_none f.relay))),
          hop_flies t job s c flights given h f (over_stripe flights s f e) (ap (next_column t) relay ∙ next) folds good.1,
        )
      where
        some_none : (r : Relay) → Some r ≢ None
        some_none r e = absurd (cc)

-- a relay ends well
pub live_of_digest : (x : SlotState) (d : Digest) → digest_in x ≡ Some d → live_of x ≡ Live d
live_of_digest Void d e = absurd (cc)
live_of_digest (Live x) d e = ap Live (cc)
live_of_digest (Lost x) d e = ap Live (cc)
live_of_digest (Broken x) d e = ap Live (cc)

pub find_all : {A : Type 0} (P : A → Type 0) (test : A → Bool) (xs : List A) (x : A) → All P xs → find test xs ≡ Some x → P x
find_all P test [] x all e = absurd (cc)
find_all P test (y ∷ xs) x all e = step (λ q. find_all P test xs x (All-tail P y xs all) q) (test y) e
  where
    step : (find test xs ≡ Some x → P x) → (b : Bool) → cond b (Some y) (find test xs) ≡ Some x → P x
    step rest true q = subst P (is q) (All-head P y xs all)
      where
        is : Some y ≡ Some x → y ≡ x
        is q = cc
    step rest false q = rest q

good_mended : (t : Table) (job s c : ℕ) (flights : List Flight) (given : List ℕ) (h h' : Holdings) (n : ℕ) → Legal t (Mended job s c) → Acts t flights given (Mended job s c) h h' → Stands t h flights → n < t.stripes
    → Good t.data_columns t.parity (stripe_of (after t (Mended job s c)) h' n) (flight_in (flights_after t (Mended job s c) given flights) n)
good_mended t job s c flights given h h' n legal acts x ln = elim (cases_eq n s) [
  | inl q ↦ subst (λ n. Good t.data_columns t.parity (stripe_of (after t (Mended job s c)) h' n) (flight_in (flights_after t (Mended job s c) given flights) n)) (sym q)
      (subst (λ o. Good t.data_columns t.parity (stripe_of (after t (Mended job s c)) h' s) o) (sym (ended_here flights s))
      (here (flight_in flights s) refl acts (relay_at t s) refl legal.1 (x.flying s legal.0.0), tt))
  | inr ne ↦ lessened t.data_columns t.parity (stripe_of t h n) (stripe_of (after t (Mended job s c)) h' n) (beside ne) (unbroken_by t (after t (Mended job s c)) h h' n (λ k lk. inl (slots ne k lk)))
      (flight_in flights n) (flight_in (flights_after t (Mended job s c) given flights) n) (less_flight t (Mended job s c) given flights n tt) (good_at t h flights n x ln)
]
  where
    slots : n ≢ s → (k : ℕ) → k < width t → slot_at (after t (Mended job s c)) n k ≡ slot_at t n k
    slots ne k lk = slot_other t s c n k (live_of (slot_at t s c)) legal.0.1 lk (λ e. ne e.0)

    beside : n ≢ s → Worse t.data_columns t.parity (stripe_of t h n) (stripe_of (after t (Mended job s c)) h' n)
    beside ne = worse_after t.data_columns t.parity (stripe_of t h n) (stripe_of (after t (Mended job s c)) h' n) (λ k lk. inl (slots ne k lk))
        (λ k b lk live held. sym (others (flight_in flights s) acts k lk) ∙ held)
      where
        others : (o : Option Flight) → IsSomeAnd o (λ f. WritesBack t h h' f s c) → (k : ℕ) → k < width t → held_at t h' n k ≡ held_at t h n k
        others None w k lk = absurd w
        others (Some f) w k lk = w.others n k ln lk (inl ne)

    here : (o : Option Flight) → flight_in flights s ≡ o → IsSomeAnd o (λ f. WritesBack t h h' f s c) → (r : Option Relay) → relay_at t s ≡ r
        → IsSomeAnd r (λ r. (r.target ≡ c) × (next_column t r ≡ None)) → FliesOver t.data_columns t.parity (stripe_of t h s) o
        → StripeLaw t.data_columns t.parity (stripe_of (after t (Mended job s c)) h' s) None
    here None e w r er next fly = absurd w
    here (Some f) e w None er next fly = absurd next
    here (Some f) e w (Some r) er next fly =
        mended_keeps t.data_columns t.parity x.table.size.parity.1 x.table.size.parity.0 x.table.size.data_columns.1 (stripe_of t h s) (stripe_of (after t (Mended job s c)) h' s) r (partial_of f)
        (standing_is_relay t r standing) (subst (λ n. flight.HasNoNext t.data_columns t.parity (stripe_of t h n) r) over (none_is_no_next t h r next.1))
        (subst (λ k. Repairs t.data_columns t.parity (stripe_of t h s) (stripe_of (after t (Mended job s c)) h' s) k (partial_of f)) (sym next.0) record {
          before = not_void (slot_at t s c) (digest_of (partial_of f)) w.digest;
          digest = w.digest;
          after = slot_same t s c (live_of (slot_at t s c)) x.table.size.slots legal.0.0 legal.0.1 ∙ live_of_digest (slot_at t s c) (digest_of (partial_of f)) w.digest;
          written = w.written;
          other_slots = λ k lk ne. slot_other t s c s k (live_of (slot_at t s c)) legal.0.1 lk (λ e. ne e.1);
          other_held = λ k lk ne. w.others s k legal.0.0 lk (inr ne);
        })
        (subst (λ q. FlightLaw t.data_columns t.parity (stripe_of t h s) q (partial_of f)) relay fly.law) fly.unbroken
      where
        standing : IsStanding t r
        standing = find_all (IsStanding t) (λ r. r.stripe == s) t.relays r x.table.relays.standing er

        same : (f : Flight) × (flight_in flights s ≡ Some f) × (f.relay ≡ r)
        same = flight_of_relay t flights s r x.relays er

        relay : f.relay ≡ r
        relay = ap (λ (g : Flight). g.relay) (is_some f same.0 (sym e ∙ same.1)) ∙ same.2

        over : r.stripe ≡ s
        over = sym (ap (λ (r : Relay). r.stripe) relay) ∙ over_stripe flights s f e

-- entries that put or break
good_landed : (t : Table) (e : Entry) (flights : List Flight) (h h' : Holdings) (n : ℕ) → AreFlights t flights → StripesConsistent (after t e) h' → relay_at (after t e) n ≡ relay_at t n
    → (after t e).data_columns ≡ t.data_columns → (after t e).parity ≡ t.parity → (after t e).stripes ≡ t.stripes → n < t.stripes
    → ((f : Flight) → flight_in flights n ≡ Some f → IsFlying t.data_columns t.parity (stripe_of (after t e) h' n) f)
    → Good t.data_columns t.parity (stripe_of (after t e) h' n) (flight_in flights n)
good_landed t e flights h h' n are holds relay dc p z ln flies = (
  subst (λ o. StripeLaw t.data_columns t.parity (stripe_of (after t e) h' n) o) (relay ∙ relay_of_flight t flights n are)
      (subst (λ d. StripeLaw d t.parity (stripe_of (after t e) h' n) (relay_at (after t e) n)) dc
      (subst (λ q. StripeLaw (after t e).data_columns q (stripe_of (after t e) h' n) (relay_at (after t e) n)) p (holds n (omega arith)))),
  each (flight_in flights n) refl,
)
  where
    each : (o : Option Flight) → flight_in flights n ≡ o → FliesOver t.data_columns t.parity (stripe_of (after t e) h' n) o
    each None q = tt
    each (Some f) q = flies f q

-- a put into another stripe, and a Broke in another
flies_beside : (t : Table) (e : Entry) (h h' : Holdings) (n : ℕ) (f : Flight) → FlightLaw t.data_columns t.parity (stripe_of (after t e) h' n) f.relay (partial_of f)
    → ((k : ℕ) → k < width t → slot_at (after t e) n k ≡ slot_at t n k) → IsFlying t.data_columns t.parity (stripe_of t h n) f → IsFlying t.data_columns t.parity (stripe_of (after t e) h' n) f
flies_beside t e h h' n f law same x = record {
  blind = x.blind;
  sum = x.sum;
  beside = λ k d lk ne q. x.beside k d lk ne (sym (same k lk) ∙ q);
  unbroken = λ two k d lk q. x.unbroken two k d lk (sym (same k lk) ∙ q);
  law = law;
}

pub flying_some : (t : Table) (h : Holdings) (flights : List Flight) (n : ℕ) (f : Flight) → Stands t h flights → n < t.stripes → flight_in flights n ≡ Some f → IsFlying t.data_columns t.parity (stripe_of t h n) f
flying_some t h flights n f x ln e = subst (λ o. FliesOver t.data_columns t.parity (stripe_of t h n) o) e (x.flying n ln)

pub relay_some : (t : Table) (flights : List Flight) (n : ℕ) (f : Flight) → AreFlights t flights → flight_in flights n ≡ Some f → relay_at t n ≡ Some f.relay
relay_some t flights n f are e = relay_of_flight t flights n are ∙ ap relay_of e

apart : (t : Table) (s n : ℕ) (r : Relay) → relay_at t s ≡ None → relay_at t n ≡ Some r → n ≢ s
apart t s n r none some q = no (sym none ∙ ap (λ m. relay_at t m) (sym q) ∙ some)
  where
    no : None ≡ Some r → ⊥
    no e = cc

broke_stripe : (job s c n k : ℕ) → Broke job s c ≡ Broke 0 n k → s ≡ n
broke_stripe job s c n k e = cc

good : (t : Table) (e : Entry) (flights : List Flight) (given : List ℕ) (h h' : Holdings) (n : ℕ) → Legal t e → Acts t flights given e h h' → Stands t h flights → n < t.stripes
    → Good t.data_columns t.parity (stripe_of (after t e) h' n) (flight_in (flights_after t e given flights) n)
good t (Put job s c digest parity_digest kept) flights given h h' n legal acts x ln =
    good_landed t (Put job s c digest parity_digest kept) flights h h' n x.relays (entry_keeps t (Put job s c digest parity_digest kept) h h' x.table legal acts x.holds) refl refl refl refl ln
    (λ f e. (let r : relay_at t n ≡ Some f.relay = relay_some t flights n f x.relays e in
    let fly : IsFlying t.data_columns t.parity (stripe_of t h n) f = flying_some t h flights n f x ln e in
    flies_beside t (Put job s c digest parity_digest kept) h h' n f
    (entry_keeps_flight t (Put job s c digest parity_digest kept) h h' n f.relay (partial_of f) x.table legal acts ln r (λ k q. absurd (cc)) fly.law).1
    (λ k lk. slots_stay t (Put job s c digest parity_digest kept) n k x.table legal lk (λ w. apart t s n f.relay legal.1.2.0 r w.0)) fly))
good t (Put2 job s c digest parity_digest second_digest kept kept2) flights given h h' n legal acts x ln =
    good_landed t (Put2 job s c digest parity_digest second_digest kept kept2) flights h h' n x.relays (entry_keeps t (Put2 job s c digest parity_digest second_digest kept kept2) h h' x.table legal acts x.holds) refl refl refl refl ln
    (λ f e. (let r : relay_at t n ≡ Some f.relay = relay_some t flights n f x.relays e in
    let fly : IsFlying t.data_columns t.parity (stripe_of t h n) f = flying_some t h flights n f x ln e in
    flies_beside t (Put2 job s c digest parity_digest second_digest kept kept2) h h' n f
    (entry_keeps_flight t (Put2 job s c digest parity_digest second_digest kept kept2) h h' n f.relay (partial_of f) x.table legal acts ln r (λ k q. absurd (cc)) fly.law).1
    (λ k lk. slots_stay t (Put2 job s c digest parity_digest second_digest kept kept2) n k x.table legal lk (λ w. apart t s n f.relay legal.1.2.0 r w.0)) fly))
good t (Broke job s c) flights given h h' n legal acts x ln =
    good_landed t (Broke job s c) flights h h' n x.relays (entry_keeps t (Broke job s c) h h' x.table legal acts.1 x.holds) refl refl refl refl ln
    (λ f e. (let r : relay_at t n ≡ Some f.relay = relay_some t flights n f x.relays e in
    let fly : IsFlying t.data_columns t.parity (stripe_of t h n) f = flying_some t h flights n f x ln e in
    let ne : n ≢ s = apart t s n f.relay acts.0 r in
    flies_beside t (Broke job s c) h h' n f
    (entry_keeps_flight t (Broke job s c) h h' n f.relay (partial_of f) x.table legal acts.1 ln r (λ k q. ne (sym (broke_stripe job s c n k q))) fly.law).1
    (λ k lk. slots_stay t (Broke job s c) n k x.table legal lk (λ w. ne w.0)) fly))
good t (Begin job s c) flights given h h' n legal acts x ln = good_begin t job s c flights given h h' n legal acts.0 acts.1 x ln
good t (Hop job s c) flights given h h' n legal acts x ln = good_hop t job s c flights given h h' n legal acts x ln
good t (Mended job s c) flights given h h' n legal acts x ln = good_mended t job s c flights given h h' n legal acts x ln
good t (Moved job s c true) flights given h h' n legal acts x ln =
    lessened t.data_columns t.parity (stripe_of t h n) (stripe_of (after t (Moved job s c true)) h' n) (copied t job s c h h' n x.table legal acts ln)
    (unbroken_by t (after t (Moved job s c true)) h h' n (λ k lk. inl refl)) (flight_in flights n) (flight_in flights n) (inl refl) (good_at t h flights n x ln)
good t (Moved job s c false) flights given h h' n legal acts x ln = good_less t (Moved job s c false) flights given h h' n legal acts x ln tt (inl refl)
good t (Skip job s) flights given h h' n legal acts x ln = good_less t (Skip job s) flights given h h' n legal acts x ln tt (inl refl)
good t (Seen job s c) flights given h h' n legal acts x ln = good_less t (Seen job s c) flights given h h' n legal acts x ln tt (inl refl)
good t (Gone job s c) flights given h h' n legal acts x ln = good_less t (Gone job s c) flights given h h' n legal acts x ln tt (inl refl)
good t (Fault job s c) flights given h h' n legal acts x ln = good_less t (Fault job s c) flights given h h' n legal acts x ln tt (inl refl)
good t (GaveUp job s c other) flights given h h' n legal acts x ln = good_less t (GaveUp job s c other) flights given h h' n legal acts x ln tt (less_flight t (GaveUp job s c other) given flights n tt)
good t (Oddly job s c found) flights given h h' n legal acts x ln = good_less t (Oddly job s c found) flights given h h' n legal acts x ln tt (less_flight t (Oddly job s c found) given flights n tt)
good t (Stuck job s c other) flights given h h' n legal acts x ln = good_less t (Stuck job s c other) flights given h h' n legal acts x ln tt (inl refl)
good t (MoveBegin job c to) flights given h h' n legal acts x ln = good_less t (MoveBegin job c to) flights given h h' n legal acts x ln tt (inl refl)
good t (MoveEnd job c) flights given h h' n legal acts x ln = good_less t (MoveEnd job c) flights given h h' n legal acts x ln tt (inl refl)
good t (Swapped job c to) flights given h h' n legal acts x ln = good_less t (Swapped job c to) flights given h h' n legal acts x ln tt (inl refl)
good t (Counted job) flights given h h' n legal acts x ln = good_less t (Counted job) flights given h h' n legal acts x ln tt (inl refl)

pub act_keeps : ActKeeps
act_keeps t e flights given h h' legal acts x =
    let size : ((after t e).data_columns ≡ t.data_columns) × ((after t e).parity ≡ t.parity) × ((after t e).stripes ≡ t.stripes) = sizes_stay t e in
    let are : AreFlights (after t e) (flights_after t e given flights) = flights_go_on t e given flights x.relays in
    let each : (n : ℕ) → n < (after t e).stripes → Good (after t e).data_columns (after t e).parity (stripe_of (after t e) h' n) (flight_in (flights_after t e given flights) n) =
    λ n ln. subst (λ d. Good d (after t e).parity (stripe_of (after t e) h' n) (flight_in (flights_after t e given flights) n)) (sym size.0)
    (subst (λ p. Good t.data_columns p (stripe_of (after t e) h' n) (flight_in (flights_after t e given flights) n)) (sym size.1) (good t e flights given h h' n legal acts x (omega arith))) in
    record {
      table = after_keeps t e x.table legal;
      relays = are;
      holds = λ n ln. subst (λ o. StripeLaw (after t e).data_columns (after t e).parity (stripe_of (after t e) h' n) o) (sym (relay_of_flight (after t e) (flights_after t e given flights) n are)) (each n ln).0;
      flying = λ n ln. (each n ln).1;
    }

pub loss_keeps_all : LossKeepsAll
loss_keeps_all t flights h h' loses x =
    let each : (n : ℕ) → n < t.stripes → Good t.data_columns t.parity (stripe_of t h' n) (flight_in flights n) = λ n ln. good t (Counted 0) flights [] h h' n tt loses x ln in
    record {
      table = x.table;
      relays = x.relays;
      holds = λ n ln. subst (λ o. StripeLaw t.data_columns t.parity (stripe_of t h' n) o) (sym (relay_of_flight t flights n x.relays)) (each n ln).0;
      flying = λ n ln. (each n ln).1;
    }
