-- Each entry of a put, a look, an opening or a count is a step of each stripe.
use Rattle.std.proofs.Common.{◌≡◌, ◌≢◌, ◌⊎◌, inl, inr, ℕ, suc, ◌+◌, ◌<◌, List, Option, Some, None, Bool, true, false, IsTrue, refl, sym, ap, ◌∙◌, subst, arith, nat_le}
use Rattle.std.proofs.lemmas.Bool.Decides.{nat_tests}
use Rattle.std.proofs.lemmas.Bool.{cases_eq}
use Rattle.pot_bytes.specs.declared.digest.Digest.{Digest}
use Rattle.pot_bytes.specs.Sums.{xor}
use Rattle.pot_bytes.specs.Weighted.{scaled}
use Rattle.pot_gf.specs.Field.{power}
use Rattle.pot_machine.specs.declared.slot.SlotState.{SlotState}
use Rattle.pot_machine.specs.declared.slot.SlotState.TheVariants.{Void, Live, Lost, Broken}
use Rattle.pot_machine.specs.declared.entry.Entry.TheVariants.{Put, Skip, Seen, Gone, Broke, Fault, Counted, Put2}
use Rattle.pot_machine.specs.declared.relay.Relay.{Relay}
use Rattle.pot_machine.specs.Slot.{digest_in, is_void, is_live, is_lost, is_unsound, lost_of, broken_of, parity_slot}
use Rattle.pot_machine.specs.Table.{Table, width, slot_at, relay_at, first}
use Rattle.pot_machine.specs.Machine.{TakesPut, TakesBroke, with_slot, with_put, with_loss}
use Rattle.pot_machine.specs.Rules.{IsTable}
use Rattle.pot_machine.proofs.Searches.{least_none}
use Rattle.pot_machine.proofs.Places.{slot_after, slot_same, slot_other}
use Rattle.pot_machine.proofs.Kept.{put_other, put_data, put_parity, put2_other, put2_second}
use Rattle.pot_bytes.specs.Digests.{digest_of}
use Rattle.pot_steps.specs.Stripe.{Stripe, IsOld, IsNewParity, PutsIntoStripe}
use Rattle.pot_steps.specs.Law.{StripeLaw, Worse, AllLive}
use Rattle.pot_steps.specs.Holdings.{Holdings, StripesConsistent, stripe_of}
use Rattle.pot_steps.specs.Entries.{held_at, LosesAtLive, WritesStripe, EntryKeeps, EntryKeepsFlight, LossesKeep}
use Rattle.pot_steps.proofs.Steps.{worse_keeps, worse_keeps_flight}
use Rattle.pot_steps.proofs.PutLaw.{put_keeps_law}
use Rattle.pot_steps.proofs.Changes.{worse_from}

-- A STRIPE WHOSE SLOTS STAY OR BECOME LOST

worse_stripe : (t : Table) (s s' : Stripe) (relay : Option Relay) → Worse t.data_columns t.parity s s' → StripeLaw t.data_columns t.parity s relay → StripeLaw t.data_columns t.parity s' relay
worse_stripe t s s' relay w law = worse_keeps t.data_columns t.parity s s' relay relay w (λ e. e) law

stays : (t : Table) (h h' : Holdings) (n : ℕ) → n < t.stripes → LosesAtLive t h h' → Worse t.data_columns t.parity (stripe_of t h n) (stripe_of t h' n)
stays t h h' n lt loses = worse_from t.data_columns t.parity (stripe_of t h n) (stripe_of t h' n)
    (λ k lk. inl refl) (λ k b lk void held. loses n k b lt lk void held)

pub losses_keep : LossesKeep
losses_keep t h h' loses up n lt = worse_stripe t (stripe_of t h n) (stripe_of t h' n) (relay_at t n) (stays t h h' n lt loses) (up n lt)

gone : (t : Table) (h h' : Holdings) (s c n : ℕ) → n < t.stripes → LosesAtLive t h h' → Worse t.data_columns t.parity (stripe_of t h n) (stripe_of (with_loss t s c) h' n)
gone t h h' s c n lt loses = worse_from t.data_columns t.parity (stripe_of t h n) (stripe_of (with_loss t s c) h' n)
    (λ k lk. elim (slot_after t s c (lost_of (slot_at t s c)) n k) [ inl e ↦ inl e | inr e ↦ inr (e.0 ∙ sym (ap lost_of e.1)) ])
    (λ k b lk void held. loses n k b lt lk void held)

-- BROKE

pub broken : (x : SlotState) → IsTrue (is_live x) ⊎ IsTrue (is_lost x) → (d : Digest) × (broken_of x ≡ Broken d)
broken Void (inl e) = absurd (cc)
broken Void (inr e) = absurd (cc)
broken (Live d) h = (d, refl)
broken (Lost d) h = (d, refl)
broken (Broken d) h = (d, refl)

broke : (t : Table) (h h' : Holdings) (s c n : ℕ) → IsTable t → s < t.stripes → c < width t → TakesBroke t s c → n < t.stripes → LosesAtLive t h h' → StripesConsistent t h
    → StripeLaw t.data_columns t.parity (stripe_of (with_slot t s c (broken_of (slot_at t s c))) h' n) (relay_at t n)
broke t h h' s c n table ls lc takes lt loses up = elim (cases_eq n s) [
  | inl e ↦ subst (λ n. StripeLaw t.data_columns t.parity (stripe_of (with_slot t s c (broken_of (slot_at t s c))) h' n) (relay_at t n)) (sym e)
      (λ none few. (let b : (d : Digest) × (broken_of (slot_at t s c) ≡ Broken d) = broken (slot_at t s c) takes in
      absurd (none c b.0 lc (slot_same t s c (broken_of (slot_at t s c)) table.size.slots ls lc ∙ b.1))))
  | inr ne ↦ worse_stripe t (stripe_of t h n) (stripe_of (with_slot t s c (broken_of (slot_at t s c))) h' n) (relay_at t n)
      (worse_from t.data_columns t.parity (stripe_of t h n) (stripe_of (with_slot t s c (broken_of (slot_at t s c))) h' n)
      (λ k lk. inl (slot_other t s c n k (broken_of (slot_at t s c)) lc lk (λ e. ne e.0)))
      (λ k b lk void held. loses n k b lt lk void held)) (up n lt)
]

-- PUTS

-- a parity slot after a put
new_slot : (s : Stripe) (c : ℕ) (new : List ℕ) (kept : Bool) → s.slots c ≡ parity_slot (digest_of new) kept → (kept ≡ true → s.held c ≡ Some new) → IsNewParity s c new
new_slot s c new true e h = record { digest = ap digest_in e; kept = λ d l. h refl }
new_slot s c new false e h = record { digest = ap digest_in e; kept = λ d l. absurd (lost_live (sym e ∙ l)) }
  where
    lost_live : {a b : Digest} → Lost a ≡ Live b → ⊥
    lost_live e = cc

-- where no slot is Lost or Broken, each is Void or Live
void_or_live : (x : SlotState) → is_unsound x ≡ false → (x ≡ Void) ⊎ ((d : Digest) × (x ≡ Live d))
void_or_live Void e = inl refl
void_or_live (Live d) e = inr (d, refl)
void_or_live (Lost d) e = absurd (cc)
void_or_live (Broken d) e = absurd (cc)

pub all_live : (t : Table) (h : Holdings) (s : ℕ) → first t s is_unsound ≡ None → AllLive t.data_columns t.parity (stripe_of t h s)
all_live t h s none c lt = void_or_live (slot_at t s c) (least_none (width t) (λ k. is_unsound (slot_at t s k)) none c lt)

-- the slot of the cursor is Void
pub is_void_at : (x : SlotState) → IsTrue (is_void x) → x ≡ Void
is_void_at Void e = refl
is_void_at (Live d) e = absurd (cc)
is_void_at (Lost d) e = absurd (cc)
is_void_at (Broken d) e = absurd (cc)

module _ (t : Table) (h h' : Holdings) (s c : ℕ) (digest parity_digest : Digest) (block p q : List ℕ) (kept kept2 : Bool) (table : IsTable t) (takes : TakesPut t s c)
    (is_block : digest ≡ digest_of block) (is_parity : parity_digest ≡ digest_of (xor p block)) (w : WritesStripe t h h' s c block p q kept kept2) where
  pub column : c < t.data_columns
  column = let e : c ≡ t.cursor.column = takes.1 in let b : t.cursor.column < t.data_columns = table.cursor.column in omega arith

  pub in_stripe : s < t.stripes
  in_stripe = takes.0.1

  pub empty : slot_at t s c ≡ Void
  empty =
      is_void_at (slot_at t s c)
      (ap (λ n. is_void (slot_at t n c)) takes.0.0
      ∙ table.voids.cursor c (let e : s ≡ t.cursor.stripe = takes.0.0 in let l : s < t.stripes = in_stripe in omega arith) column ∙ reached t.cursor.column c (sym takes.1))
    where
      reached : (a b : ℕ) → a ≡ b → nat_le a b ≡ true
      reached a b e = grind (arith, nat_tests)

  pub puts_one : t.parity ≡ 1 → PutsIntoStripe t.data_columns t.parity (stripe_of t h s) (stripe_of (with_put t s c digest parity_digest kept) h' s) c block p q
  puts_one single = record {
    is_block = w.is_block;
    column = column;
    empty = empty;
    slot = put_data t s c digest parity_digest kept in_stripe column table.size ∙ ap Live is_block;
    written = w.data_block;
    old_p = w.old_p;
    new_p = new_slot (stripe_of (with_put t s c digest parity_digest kept) h' s) t.data_columns (xor p block) kept
        (put_parity t s c digest parity_digest kept in_stripe column table.size ∙ ap (λ d. parity_slot d kept) is_parity) w.new_p;
    old_q = λ e. absurd (omega arith);
    new_q = λ e. absurd (omega arith);
    other_slots = λ k lk ne. put_other t s c digest parity_digest kept in_stripe column table.size s k (omega arith) (λ e. ne e.1) (λ e. (let g : k ≡ t.data_columns = e.1 in omega arith));
    other_held = λ k lk ne. w.others s k in_stripe (omega arith) (inr (lk, ne));
  }

  -- the stripes beside it
  pub beside : (u : Table) (n : ℕ) → n < t.stripes → n ≢ s → ((k : ℕ) → k < width t → slot_at u n k ≡ slot_at t n k) → ((k : ℕ) → held_at u h' n k ≡ held_at t h' n k)
      → Worse t.data_columns t.parity (stripe_of t h n) (stripe_of u h' n)
  beside u n ln ne slots held = worse_from t.data_columns t.parity (stripe_of t h n) (stripe_of u h' n)
      (λ k lk. inl (slots k lk)) (λ k b lk void e. sym (w.others n k ln lk (inl ne)) ∙ sym (held k) ∙ e)

  put_step : (u : Table) (n : ℕ) → ((n : ℕ) → n < t.stripes → n ≢ s → Worse t.data_columns t.parity (stripe_of t h n) (stripe_of u h' n))
      → PutsIntoStripe t.data_columns t.parity (stripe_of t h s) (stripe_of u h' s) c block p q → StripesConsistent t h → n < t.stripes → StripeLaw t.data_columns t.parity (stripe_of u h' n) (relay_at t n)
  put_step u n others puts up ln = elim (cases_eq n s) [
    | inl e ↦ subst (λ n. StripeLaw t.data_columns t.parity (stripe_of u h' n) (relay_at t n)) (sym e)
        (subst (λ o. StripeLaw t.data_columns t.parity (stripe_of u h' s) o) (sym takes.2.0)
        (put_keeps_law t.data_columns t.parity (stripe_of t h s) (stripe_of u h' s) c block p q table.size.data_columns.1 table.size.parity.1 table.size.parity.0
        (all_live t h s takes.2.1) puts (subst (λ o. StripeLaw t.data_columns t.parity (stripe_of t h s) o) takes.2.0 (up s in_stripe))))
    | inr ne ↦ worse_stripe t (stripe_of t h n) (stripe_of u h' n) (relay_at t n) (others n ln ne) (up n ln)
  ]

  put_holds : t.parity ≡ 1 → StripesConsistent t h → StripesConsistent (with_put t s c digest parity_digest kept) h'
  put_holds single up n ln = put_step (with_put t s c digest parity_digest kept) n
      (λ n ln ne. beside (with_put t s c digest parity_digest kept) n ln ne
      (λ k lk. put_other t s c digest parity_digest kept in_stripe column table.size n k lk (λ e. ne e.0) (λ e. ne e.0)) (λ k. refl))
      (puts_one single) up ln

  -- with two parity columns
  module _ (second_digest : Digest) (double : t.parity ≡ 2) (is_second : second_digest ≡ digest_of (xor q (scaled (power 3 c) block))) where
    abbrev pub both : Table
    both = with_slot (with_put t s c digest parity_digest kept) s (t.data_columns + 1) (parity_slot second_digest kept2)

    one_more : t.data_columns + 1 ≡ suc t.data_columns
    one_more = omega arith

    pub second_other : (n k : ℕ) → k < width t → ((n ≡ s) × (k ≡ t.data_columns + 1) → ⊥) → slot_at both n k ≡ slot_at (with_put t s c digest parity_digest kept) n k
    second_other n k lk ne = put2_other t s c digest parity_digest second_digest kept kept2 in_stripe column table.size double n k lk ne

    pub puts_two : PutsIntoStripe t.data_columns t.parity (stripe_of t h s) (stripe_of both h' s) c block p q
    puts_two = record {
      is_block = w.is_block;
      column = column;
      empty = empty;
      slot = second_other s c (let l : c < t.data_columns = column in omega arith) (λ e. (let l : c < t.data_columns = column in let g : c ≡ t.data_columns + 1 = e.1 in omega arith))
          ∙ put_data t s c digest parity_digest kept in_stripe column table.size ∙ ap Live is_block;
      written = w.data_block;
      old_p = w.old_p;
      new_p = new_slot (stripe_of both h' s) t.data_columns (xor p block) kept
          (second_other s t.data_columns (omega arith) (λ e. (let g : t.data_columns ≡ t.data_columns + 1 = e.1 in omega arith))
          ∙ put_parity t s c digest parity_digest kept in_stripe column table.size ∙ ap (λ d. parity_slot d kept) is_parity) w.new_p;
      old_q = λ two. subst (λ j. IsOld (stripe_of t h s) j q) one_more (w.old_q two);
      new_q = λ two. subst (λ j. IsNewParity (stripe_of both h' s) j (xor q (scaled (power 3 c) block))) one_more
          (new_slot (stripe_of both h' s) (t.data_columns + 1) (xor q (scaled (power 3 c) block)) kept2
          (put2_second t s c digest parity_digest second_digest kept kept2 in_stripe column table.size double ∙ ap (λ d. parity_slot d kept2) is_second) (w.new_q two));
      other_slots = λ k lk ne. second_other s k (omega arith) (λ e. (let g : k ≡ t.data_columns + 1 = e.1 in omega arith))
          ∙ put_other t s c digest parity_digest kept in_stripe column table.size s k (omega arith) (λ e. ne e.1) (λ e. (let g : k ≡ t.data_columns = e.1 in omega arith));
      other_held = λ k lk ne. w.others s k in_stripe (omega arith) (inr (lk, ne));
    }

    put2_holds : StripesConsistent t h → StripesConsistent (with_slot (with_put t s c digest parity_digest kept) s (t.data_columns + 1) (parity_slot second_digest kept2)) h'
    put2_holds up n ln = put_step both n
        (λ n ln ne. beside both n ln ne
        (λ k lk. second_other n k lk (λ e. ne e.0) ∙ put_other t s c digest parity_digest kept in_stripe column table.size n k lk (λ e. ne e.0) (λ e. ne e.0)) (λ k. refl))
        puts_two up ln

pub entry_keeps : EntryKeeps
entry_keeps t (Put job s c digest parity_digest kept) h h' table legal e up n ln =
    put_holds t h h' s c digest parity_digest e.0 e.1 e.1 kept kept table legal.1 e.2 e.3 e.4 legal.0 up n ln
entry_keeps t (Put2 job s c digest parity_digest second_digest kept kept2) h h' table legal e up n ln =
    put2_holds t h h' s c digest parity_digest e.0 e.1 e.2 kept kept2 table legal.1 e.3 e.4 e.6 second_digest legal.0 e.5 up n ln
entry_keeps t (Skip job s) h h' table legal e up n ln = losses_keep t h h' e up n ln
entry_keeps t (Seen job s c) h h' table legal e up n ln = losses_keep t h h' e up n ln
entry_keeps t (Gone job s c) h h' table legal e up n ln =
    worse_stripe t (stripe_of t h n) (stripe_of (with_loss t s c) h' n) (relay_at t n) (gone t h h' s c n ln e) (up n ln)
entry_keeps t (Broke job s c) h h' table legal e up n ln = broke t h h' s c n table legal.1.0 legal.1.1 legal.2 ln e up
entry_keeps t (Fault job s c) h h' table legal e up n ln = losses_keep t h h' e up n ln
entry_keeps t (Counted job) h h' table legal e up n ln = losses_keep t h h' e up n ln
entry_keeps t _ h h' table legal e up n ln = absurd e

-- FLIGHTS

none_some : {r : Relay} → None ≡ Some r → ⊥
none_some e = cc

broke_at : (job s n c : ℕ) → job ≡ 0 → n ≡ s → Broke job s c ≡ Broke 0 n c
broke_at job s n c e q = cc

pub entry_keeps_flight : EntryKeepsFlight
entry_keeps_flight t (Put job s c digest parity_digest kept) h h' n r partial table legal e ln here other law =
    let ne : n ≢ s = (λ q. none_some (sym legal.1.2.0 ∙ ap (λ m. relay_at t m) (sym q) ∙ here)) in
    let below : c < t.data_columns = column t h h' s c digest parity_digest e.0 e.1 e.1 kept kept table legal.1 e.2 e.3 e.4 in (
      here,
      worse_keeps_flight t.data_columns t.parity (stripe_of t h n) (stripe_of (with_put t s c digest parity_digest kept) h' n) r partial
          (beside t h h' s c digest parity_digest e.0 e.1 e.1 kept kept table legal.1 e.2 e.3 e.4 (with_put t s c digest parity_digest kept) n ln ne
          (λ k lk. put_other t s c digest parity_digest kept legal.1.0.1 below table.size n k lk (λ g. ne g.0) (λ g. ne g.0)) (λ k. refl))
          law,
    )
entry_keeps_flight t (Put2 job s c digest parity_digest second_digest kept kept2) h h' n r partial table legal e ln here other law =
    let ne : n ≢ s = (λ q. none_some (sym legal.1.2.0 ∙ ap (λ m. relay_at t m) (sym q) ∙ here)) in
    let below : c < t.data_columns = column t h h' s c digest parity_digest e.0 e.1 e.2 kept kept2 table legal.1 e.3 e.4 e.6 in (
      here,
      worse_keeps_flight t.data_columns t.parity (stripe_of t h n)
          (stripe_of (with_slot (with_put t s c digest parity_digest kept) s (t.data_columns + 1) (parity_slot second_digest kept2)) h' n) r partial
          (beside t h h' s c digest parity_digest e.0 e.1 e.2 kept kept2 table legal.1 e.3 e.4 e.6
          (with_slot (with_put t s c digest parity_digest kept) s (t.data_columns + 1) (parity_slot second_digest kept2)) n ln ne
          (λ k lk. put2_other t s c digest parity_digest second_digest kept kept2 legal.1.0.1 below table.size legal.0 n k lk (λ g. ne g.0)
          ∙ put_other t s c digest parity_digest kept legal.1.0.1 below table.size n k lk (λ g. ne g.0) (λ g. ne g.0)) (λ k. refl))
          law,
    )
entry_keeps_flight t (Skip job s) h h' n r partial table legal e ln here other law =
    (here, worse_keeps_flight t.data_columns t.parity (stripe_of t h n) (stripe_of t h' n) r partial (stays t h h' n ln e) law)
entry_keeps_flight t (Seen job s c) h h' n r partial table legal e ln here other law =
    (here, worse_keeps_flight t.data_columns t.parity (stripe_of t h n) (stripe_of t h' n) r partial (stays t h h' n ln e) law)
entry_keeps_flight t (Gone job s c) h h' n r partial table legal e ln here other law =
    (here, worse_keeps_flight t.data_columns t.parity (stripe_of t h n) (stripe_of (with_loss t s c) h' n) r partial (gone t h h' s c n ln e) law)
entry_keeps_flight t (Broke job s c) h h' n r partial table legal e ln here other law =
    let ne : n ≢ s = (λ q. other c (broke_at job s n c legal.0 q)) in (
      here,
      worse_keeps_flight t.data_columns t.parity (stripe_of t h n) (stripe_of (with_slot t s c (broken_of (slot_at t s c))) h' n) r partial
          (worse_from t.data_columns t.parity (stripe_of t h n) (stripe_of (with_slot t s c (broken_of (slot_at t s c))) h' n)
          (λ k lk. inl (slot_other t s c n k (broken_of (slot_at t s c)) legal.1.1 lk (λ g. ne g.0)))
          (λ k b lk void held. e n k b ln lk void held))
          law,
    )
entry_keeps_flight t (Fault job s c) h h' n r partial table legal e ln here other law =
    (here, worse_keeps_flight t.data_columns t.parity (stripe_of t h n) (stripe_of t h' n) r partial (stays t h h' n ln e) law)
entry_keeps_flight t (Counted job) h h' n r partial table legal e ln here other law =
    (here, worse_keeps_flight t.data_columns t.parity (stripe_of t h n) (stripe_of t h' n) r partial (stays t h h' n ln e) law)
entry_keeps_flight t _ h h' n r partial table legal e ln here other law = absurd e
