-- Each entry keeps the law of the Live slots.
use Rattle.std.proofs.Common.{◌≡◌, ◌≢◌, ◌⊎◌, inl, inr, ℕ, ◌<◌, List, Option, Some, None, IsSomeAnd, true, false, IsTrue, refl, sym, ap, ◌∙◌, subst, arith}
use Rattle.std.proofs.lemmas.Bool.{cases_eq}
use Rattle.pot_bytes.specs.declared.digest.Digest.{Digest}
use Rattle.pot_machine.specs.declared.slot.SlotState.{SlotState}
use Rattle.pot_machine.specs.declared.slot.SlotState.TheVariants.{Live}
use Rattle.pot_machine.specs.declared.entry.Entry.{Entry}
use Rattle.pot_machine.specs.declared.entry.Entry.TheVariants.{Put, Skip, Seen, Gone, Broke, Fault, Begin, Hop, Mended, GaveUp, Oddly, Stuck, MoveBegin, Moved, MoveEnd, Swapped, Counted, Put2}
use Rattle.pot_machine.specs.Slot.{is_live, live_of}
use Rattle.pot_machine.specs.Table.{Table, width, slot_at, serving_at}
use Rattle.pot_machine.specs.Machine.{Legal, after}
use Rattle.pot_machine.specs.Rules.{IsTable}
use Rattle.pot_machine.proofs.LeftAlone.{sizes_stay, lost_is_not_live}
use Rattle.pot_machine.proofs.Places.{slot_same, slot_other}
use Rattle.pot_bytes.specs.Digests.{digest_of}
use Rattle.pot_steps.specs.Stripe.{Sound}
use Rattle.pot_steps.specs.declared.flight.Flight.{Flight}
use Rattle.pot_steps.specs.Flight.{partial_of}
use Rattle.pot_steps.specs.Holdings.{Holdings, LiveLaw, stripe_of}
use Rattle.pot_steps.specs.Entries.{held_at}
use Rattle.pot_steps.specs.Flights.{Acts, WritesBack, Copies, flight_in}
use Rattle.pot_steps.specs.Losses.{KeepsHeld, ActKeepsLive}
use Rattle.pot_steps.proofs.Acting.{Lessens, slots_less, serving_same, moved_other, live_of_digest}
use Rattle.pot_steps.proofs.Changes.{LostOrSame, live_before}
use Rattle.pot_steps.proofs.Losses.{entry_keeps_live}

-- a slot that is Live afterwards was Live with the same digest
same_live : (x y : SlotState) (d : Digest) → LostOrSame x y → IsTrue (is_live y) → x ≡ Live d → y ≡ Live d
same_live x y d (inl e) l h = e ∙ h
same_live x y d (inr e) l h = absurd (lost_is_not_live x (sym (ap is_live e) ∙ l))

-- one place that stays as it was
module _ (t u : Table) (h h' : Holdings) (rose : ℕ → Type 0) (n k : ℕ) (slot : LostOrSame (slot_at t n k) (slot_at u n k)) (serves : serving_at u n k ≡ serving_at t n k)
    (kept : (b : List ℕ) → IsTrue (is_live (slot_at t n k)) → held_at t h n k ≡ Some b → held_at t h' n k ≡ Some b) where
  place_stays : (IsTrue (is_live (slot_at t n k)) → Sound (stripe_of t h n) k ⊎ rose (serving_at t n k)) → IsTrue (is_live (slot_at u n k)) → Sound (stripe_of u h' n) k ⊎ rose (serving_at u n k)
  place_stays law live = elim (law (live_before (slot_at t n k) (slot_at u n k) slot live)) [
    | inl x ↦ inl (
      x.0,
      record {
        digest = x.1.digest;
        live = same_live (slot_at t n k) (slot_at u n k) x.1.digest slot live x.1.live;
        held = ap (λ a. h' a n) serves ∙ kept x.0 (ap is_live x.1.live) x.1.held;
        right = x.1.right;
      },
    )
    | inr r ↦ inr (subst rose (sym serves) r)
  ]

module _ (rose : ℕ → Type 0) (t : Table) (flights : List Flight) (given : List ℕ) (h h' : Holdings) (table : IsTable t) (law : LiveLaw t h rose) where
  lessened_live : (e : Entry) → Legal t e → Lessens e → KeepsHeld t h h' → LiveLaw (after t e) h' rose
  lessened_live e legal less keeps n k ln lk live =
      let size : ((after t e).data_columns ≡ t.data_columns) × ((after t e).parity ≡ t.parity) × ((after t e).stripes ≡ t.stripes) = sizes_stay t e in
      let ln' : n < t.stripes = omega arith in
      let lk' : k < width t = omega arith in
      place_stays t (after t e) h h' rose n k (slots_less t e n k less) (serving_same t e n k table legal ln' lk' less live)
      (λ b l x. keeps n k b ln' lk' l x) (law n k ln' lk') live

  mended_live : (job s c : ℕ) → Legal t (Mended job s c) → Acts t flights given (Mended job s c) h h' → LiveLaw (after t (Mended job s c)) h' rose
  mended_live job s c legal acts n k ln lk live = elim (cases_eq n s) [
    | inl p ↦ elim (cases_eq k c) [
      | inl q ↦ subst (λ n. Sound (stripe_of (after t (Mended job s c)) h' n) k ⊎ rose (serving_at (after t (Mended job s c)) n k)) (sym p)
          (subst (λ k. Sound (stripe_of (after t (Mended job s c)) h' s) k ⊎ rose (serving_at (after t (Mended job s c)) s k)) (sym q) (here (flight_in flights s) acts))
      | inr ne ↦ beside (inr ne) (slot_other t s c n k (live_of (slot_at t s c)) legal.0.1 lk (λ e. ne e.1))
    ]
    | inr ne ↦ beside (inl ne) (slot_other t s c n k (live_of (slot_at t s c)) legal.0.1 lk (λ e. ne e.0))
  ]
    where
      here : (o : Option Flight) → IsSomeAnd o (λ f. WritesBack t h h' f s c) → Sound (stripe_of (after t (Mended job s c)) h' s) c ⊎ rose (serving_at (after t (Mended job s c)) s c)
      here None w = absurd w
      here (Some f) w = inl (
        partial_of f,
        record {
          digest = digest_of (partial_of f);
          live = slot_same t s c (live_of (slot_at t s c)) table.size.slots legal.0.0 legal.0.1 ∙ live_of_digest (slot_at t s c) (digest_of (partial_of f)) w.digest;
          held = w.written;
          right = refl;
        },
      )

      others : (o : Option Flight) → IsSomeAnd o (λ f. WritesBack t h h' f s c) → (n ≢ s) ⊎ (k ≢ c) → held_at t h' n k ≡ held_at t h n k
      others None w apart = absurd w
      others (Some f) w apart = w.others n k ln lk apart

      beside : (n ≢ s) ⊎ (k ≢ c) → slot_at (after t (Mended job s c)) n k ≡ slot_at t n k → Sound (stripe_of (after t (Mended job s c)) h' n) k ⊎ rose (serving_at (after t (Mended job s c)) n k)
      beside apart same = place_stays t (after t (Mended job s c)) h h' rose n k (inl same) refl (λ b l x. others (flight_in flights s) acts apart ∙ x) (law n k ln lk) live

  copied_live : (job s c : ℕ) → Legal t (Moved job s c true) → Copies t (after t (Moved job s c true)) h h' s c → LiveLaw (after t (Moved job s c true)) h' rose
  copied_live job s c legal copies n k ln lk live = elim (cases_eq n s) [
    | inl p ↦ elim (cases_eq k c) [
      | inl q ↦ subst (λ n. Sound (stripe_of (after t (Moved job s c true)) h' n) k ⊎ rose (serving_at (after t (Moved job s c true)) n k)) (sym p)
          (subst (λ k. Sound (stripe_of (after t (Moved job s c true)) h' s) k ⊎ rose (serving_at (after t (Moved job s c true)) s k)) (sym q)
          (inl (copies.block, record { digest = copies.sound.digest; live = copies.sound.live; held = copies.written; right = copies.sound.right })))
      | inr ne ↦ beside (inr ne)
    ]
    | inr ne ↦ beside (inl ne)
  ]
    where
      beside : (n ≢ s) ⊎ (k ≢ c) → Sound (stripe_of (after t (Moved job s c true)) h' n) k ⊎ rose (serving_at (after t (Moved job s c true)) n k)
      beside apart = place_stays t (after t (Moved job s c true)) h h' rose n k (inl refl) (moved_other t t c s n k refl table.size.columns legal.0.0 legal.0.1 apart)
          (λ b l x. copies.others n k ln lk apart ∙ x) (law n k ln lk) live

pub act_keeps_live : (rose : ℕ → Type 0) → ActKeepsLive rose
act_keeps_live rose t (Put job s c digest parity_digest kept) flights given h h' table legal acts keeps law = entry_keeps_live rose t (Put job s c digest parity_digest kept) h h' table legal acts keeps law
act_keeps_live rose t (Put2 job s c digest parity_digest second_digest kept kept2) flights given h h' table legal acts keeps law = entry_keeps_live rose t (Put2 job s c digest parity_digest second_digest kept kept2) h h' table legal acts keeps law
act_keeps_live rose t (Broke job s c) flights given h h' table legal acts keeps law = entry_keeps_live rose t (Broke job s c) h h' table legal acts.1 keeps law
act_keeps_live rose t (Mended job s c) flights given h h' table legal acts keeps law = mended_live rose t flights given h h' table law job s c legal acts
act_keeps_live rose t (Moved job s c true) flights given h h' table legal acts keeps law = copied_live rose t flights given h h' table law job s c legal acts
act_keeps_live rose t (Moved job s c false) flights given h h' table legal acts keeps law = lessened_live rose t flights given h h' table law (Moved job s c false) legal tt (keeps (λ s p. p))
act_keeps_live rose t (Skip job s) flights given h h' table legal acts keeps law = lessened_live rose t flights given h h' table law (Skip job s) legal tt (keeps (λ s p. p))
act_keeps_live rose t (Seen job s c) flights given h h' table legal acts keeps law = lessened_live rose t flights given h h' table law (Seen job s c) legal tt (keeps (λ s p. p))
act_keeps_live rose t (Gone job s c) flights given h h' table legal acts keeps law = lessened_live rose t flights given h h' table law (Gone job s c) legal tt (keeps (λ s p. p))
act_keeps_live rose t (Fault job s c) flights given h h' table legal acts keeps law = lessened_live rose t flights given h h' table law (Fault job s c) legal tt (keeps (λ s p. p))
act_keeps_live rose t (Begin job s c) flights given h h' table legal acts keeps law = lessened_live rose t flights given h h' table law (Begin job s c) legal tt (keeps (λ s p. p))
act_keeps_live rose t (Hop job s c) flights given h h' table legal acts keeps law = lessened_live rose t flights given h h' table law (Hop job s c) legal tt (keeps (λ s p. p))
act_keeps_live rose t (GaveUp job s c other) flights given h h' table legal acts keeps law = lessened_live rose t flights given h h' table law (GaveUp job s c other) legal tt (keeps (λ s p. p))
act_keeps_live rose t (Oddly job s c found) flights given h h' table legal acts keeps law = lessened_live rose t flights given h h' table law (Oddly job s c found) legal tt (keeps (λ s p. p))
act_keeps_live rose t (Stuck job s c other) flights given h h' table legal acts keeps law = lessened_live rose t flights given h h' table law (Stuck job s c other) legal tt (keeps (λ s p. p))
act_keeps_live rose t (MoveBegin job c to) flights given h h' table legal acts keeps law = lessened_live rose t flights given h h' table law (MoveBegin job c to) legal tt (keeps (λ s p. p))
act_keeps_live rose t (MoveEnd job c) flights given h h' table legal acts keeps law = lessened_live rose t flights given h h' table law (MoveEnd job c) legal tt (keeps (λ s p. p))
act_keeps_live rose t (Swapped job c to) flights given h h' table legal acts keeps law = lessened_live rose t flights given h h' table law (Swapped job c to) legal tt (keeps (λ s p. p))
act_keeps_live rose t (Counted job) flights given h h' table legal acts keeps law = lessened_live rose t flights given h h' table law (Counted job) legal tt (keeps (λ s p. p))
