-- A place that can be rebuilt becomes sound by a look and a bounded number of calls of `mend`.
use Rattle.std.proofs.Common.{◌≡◌, ◌≢◌, ◌⊎◌, inl, inr, ℕ, zero, suc, ◌+◌, ◌*◌, ◌<◌, ◌≤◌, Bool, true, false, IsTrue, IsSomeAnd, Option, Some, None, List, length, refl, sym, ap, ◌∙◌, subst, arith}
use Rattle.std.specs.Prelude.{◌==◌}
use Rattle.std.proofs.lemmas.Bool.{cases_eq, true≢false}
use Rattle.pot_bytes.specs.declared.digest.Digest.{Digest}
use Rattle.pot_machine.specs.declared.slot.SlotState.{SlotState}
use Rattle.pot_machine.specs.declared.slot.SlotState.TheVariants.{Void, Live, Lost, Broken}
use Rattle.pot_machine.specs.declared.relay.Relay.{Relay}
use Rattle.pot_machine.specs.declared.entry.Entry.TheVariants as entry
use Rattle.pot_machine.specs.Slot.{is_live, is_lost, is_broken, is_unsound, live_of, lost_of}
use Rattle.pot_machine.specs.Table.{Table, width, slot_at, serving_at, relay_at, next_column, count}
use Rattle.pot_machine.specs.Machine.{after}
use Rattle.pot_machine.specs.Rules.{IsTable, IsStanding}
use Rattle.pot_machine.proofs.Places.{slot_same, slot_other}
use Rattle.pot_bytes.specs.Digests.{digest_of}
use Rattle.pot_steps.specs.Stripe.{Sound}
use Rattle.pot_steps.specs.Law.{Rebuildable}
use Rattle.pot_steps.specs.declared.flight.Flight.{Flight}
use Rattle.pot_steps.specs.Flight.{partial_of}
use Rattle.pot_steps.specs.Flights.{WritesBack, flight_in}
use Rattle.pot_steps.specs.Ahead.{ahead}
use Rattle.pot_steps.specs.Holdings.{Holdings, stripe_of}
use Rattle.pot_steps.specs.Entries.{held_at}
use Rattle.pot_steps.specs.Losses.{KeepsHeld}
use Rattle.pot_steps.specs.GroupStep.{GroupState, Settled, Seen, Gone, Faulted, LogFull}
use Rattle.pot_steps.specs.RelaySteps.{Logged, MendStep, MendAnswer, Began, Extends, NoNeed, Stuck, MendOdd, MendFaulted, MendFull, GoesBy, MovesRelay, Unchanged}
use Rattle.pot_steps.specs.Mending.{LosesNothing, MendedWell, MendsSoOften, MendingLaw, mends_needed}
use Rattle.pot_steps.proofs.Acting.{find_all, slots_less, broken_before, live_of_digest}
use Rattle.pot_steps.proofs.AheadLemmas.{ahead_few}
use Rattle.pot_steps.proofs.Group.{look_keeps}
use Rattle.pot_steps.proofs.MendingSteps.{Goes, some_of, ahead_means, next_ahead, goes_begin, goes_own_hop, goes_own_ends, goes_other_hop, goes_other_ends, goes_other_mended, goes_other_oddly, goes_first_hop, goes_first_ends, goes_first_mended, goes_first_oddly}
use Rattle.pot_steps.proofs.OpenPlaces.{IsOpen, IsClear, Enough, Left, Own, Other, Free, Crowded, without, count_without, passes_without, first_of, first_stands, relay_over, none_left, not_stuck}
use Rattle.pot_steps.proofs.StepsKeep.{mend_step_keeps}

-- A PLACE THAT WAS MENDED

pub unsound_dead : (x : SlotState) → IsTrue (is_unsound x) → is_live x ≡ false
unsound_dead Void u = refl
unsound_dead (Live d) u = absurd (cc)
unsound_dead (Lost d) u = refl
unsound_dead (Broken d) u = refl

target_unsound : (t : Table) (n d : ℕ) (o : Option Relay) → IsTable t → relay_at t n ≡ o → IsSomeAnd o (λ r. (r.target ≡ d) × (next_column t r ≡ None)) → IsTrue (is_unsound (slot_at t n d))
target_unsound t n d None table e h = absurd h
target_unsound t n d (Some r) table e h =
    let stands : IsStanding t r = find_all (IsStanding t) (λ q. q.stripe == n) t.relays r table.relays.standing e in
    subst (λ m. IsTrue (is_unsound (slot_at t m d))) (relay_over t.relays n r e) (subst (λ k. IsTrue (is_unsound (slot_at t r.stripe k))) h.0 stands.unsound)

held_there : (o : Option (List ℕ)) → o ≢ None → (b : List ℕ) × (o ≡ Some b)
held_there None ne = absurd (ne refl)
held_there (Some b) ne = (b, refl)

-- the block that was written is held
pub mended_sound : (job n d : ℕ) (given : List ℕ) (old new : GroupState) → Logged (entry.Mended job n d) given old new → Settled old → LosesNothing old new
    → Sound (stripe_of (after old.table (entry.Mended job n d)) new.held n) d
mended_sound job n d given old new step x nothing = by (flight_in old.flights n) step.acts
  where
    t : Table
    t = old.table

    by : (o : Option Flight) → IsSomeAnd o (λ f. WritesBack old.table step.before step.now f n d) → Sound (stripe_of (after old.table (entry.Mended job n d)) new.held n) d
    by None w = absurd w
    by (Some f) w =
        let live : slot_at (after old.table (entry.Mended job n d)) n d ≡ Live (digest_of (partial_of f)) =
        slot_same old.table n d (live_of (slot_at old.table n d)) x.table.size.slots step.legal.0.0 step.legal.0.1 ∙ live_of_digest (slot_at old.table n d) (digest_of (partial_of f)) w.digest in
        let kept : held_at new.table new.held n d ≢ None = nothing.written n d step.legal.0.0 step.legal.0.1
        (unsound_dead (slot_at old.table n d) (target_unsound old.table n d (relay_at old.table n) x.table refl step.legal.1))
        (ap (λ u. is_live (slot_at u n d)) step.table ∙ ap is_live live) in
        let there : (b : List ℕ) × (held_at old.table new.held n d ≡ Some b) = held_there (held_at old.table new.held n d) (subst (λ u. held_at u new.held n d ≢ None) step.table kept) in (
          there.0,
          record {
            digest = digest_of (partial_of f);
            live = live;
            held = there.1;
            right = ap digest_of (is there.0 (partial_of f) (sym (step.loses (serving_at old.table n d) n there.0 there.1) ∙ w.written));
          },
        )
      where
        is : (a b : List ℕ) → Some a ≡ Some b → a ≡ b
        is a b e = cc

-- ONE CALL

lost_unsound : (x : SlotState) → is_lost x ≡ true → is_unsound x ≡ true
lost_unsound Void e = absurd (cc)
lost_unsound (Live d) e = absurd (cc)
lost_unsound (Lost d) e = refl
lost_unsound (Broken d) e = absurd (cc)

some_none : {A : Type 0} (a : A) → Some a ≡ None → ⊥
some_none a e = absurd (cc)

-- the place is sound, or fewer calls are left
abbrev pub Nearer : GroupState → ℕ → ℕ → ℕ → Type 0
Nearer g s c n = Sound (stripe_of g.table g.held s) c ⊎ Goes g.table g.held s c n

module _ (s c n : ℕ) (test : ℕ → Bool) (old new : GroupState) (settled : Settled old) (x : IsOpen old.table old.held s c test) (nothing : LosesNothing old new) where
  kept : KeepsHeld old.table old.held new.held
  kept = nothing.kept

  goes_at : (u : Table) → new.table ≡ u → Goes u new.held s c n → Nearer new s c n
  goes_at u e g = inr (subst (λ v. Goes v new.held s c n) (sym e) g)

  -- a call that begins a relay
  begins : (job : ℕ) (blind : List ℕ) → Logged (entry.Begin job s c) blind old new → Left old.table s c test (n + 1) → Nearer new s c n
  begins job blind step (Own r here own calls) = absurd (some_none r (sym here ∙ step.legal.2))
  begins job blind step (Other r m here other enough calls) = absurd (some_none r (sym here ∙ step.legal.2))
  begins job blind step (Free none few enough) = goes_at (after old.table (entry.Begin job s c)) step.table (goes_begin old.table old.held new.held s c n test x settled.table kept job step.legal enough)
  begins job blind step (Crowded m none full enough calls) = (let l : length old.table.relays < 16 = step.legal.5 in absurd (omega arith))

  -- the place's own relay
  goes_own : (job : ℕ) (r : Relay) → relay_at old.table s ≡ Some r → r.target ≡ c → (IsClear old.table r test × (ahead old.table r + 1 ≤ n + 1)) ⊎ (ahead old.table r + old.table.data_columns + 2 ≤ n + 1)
      → GoesBy job s s c Extends old new → Nearer new s c n
  goes_own job r here own calls (inl step) =
      goes_at (after old.table (entry.Hop job s step.0)) step.2.table (goes_own_hop old.table old.held new.held s c n test x settled.table kept r here own calls job step.0
      (some_of (relay_at old.table s) r (λ r. next_column old.table r ≡ Some step.0) step.2.legal.1 here))
  goes_own job r here own calls (inr (inl step)) =
      let at : (r.target ≡ step.0) × (next_column old.table r ≡ None) = some_of (relay_at old.table s) r (λ r. (r.target ≡ step.0) × (next_column old.table r ≡ None)) step.1.legal.1 here in
      inl (subst (λ u. Sound (stripe_of u new.held s) c) (sym step.1.table)
      (subst (λ k. Sound (stripe_of (after old.table (entry.Mended job s step.0)) new.held s) k) (sym at.0 ∙ own) (mended_sound job s step.0 _ old new step.1 settled nothing)))
  goes_own job r here own calls (inr (inr (inl step))) =
      let at : (r.target ≡ step.0) × (next_column old.table r ≡ Some step.1) = some_of (relay_at old.table s) r (λ r. (r.target ≡ step.0) × (next_column old.table r ≡ Some step.1)) step.2.legal.1 here in
      goes_at (after old.table (entry.GaveUp job s step.0 step.1)) step.2.table (goes_own_ends old.table old.held new.held s c n test x settled.table kept r here own calls job step.0 step.1 at.1 step.3)
  goes_own job r here own calls (inr (inr (inr step))) = absurd (step.3 (subst (λ o. IsSomeAnd o (λ r. (s ≡ s) × (r.target ≡ c))) (sym here) (refl, own)))

  -- another relay of the stripe
  goes_other : (job m : ℕ) (r : Relay) → relay_at old.table s ≡ Some r → r.target ≢ c → Enough old.table s c test m → ahead old.table r + 1 + m ≤ n + 1 → GoesBy job s s c Extends old new → Nearer new s c n
  goes_other job m r here other enough calls (inl step) =
      goes_at (after old.table (entry.Hop job s step.0)) step.2.table (goes_other_hop old.table old.held new.held s c n test x settled.table kept m enough r here other calls job step.0
      (some_of (relay_at old.table s) r (λ r. next_column old.table r ≡ Some step.0) step.2.legal.1 here))
  goes_other job m r here other enough calls (inr (inl step)) =
      let at : (r.target ≡ step.0) × (next_column old.table r ≡ None) = some_of (relay_at old.table s) r (λ r. (r.target ≡ step.0) × (next_column old.table r ≡ None)) step.1.legal.1 here in
      goes_at (after old.table (entry.Mended job s step.0)) step.1.table (goes_other_mended old.table old.held new.held s c n test x settled.table kept m enough r here other calls job step.0 step.1.legal.0.1
      (λ e. other (at.0 ∙ e)) (mended_sound job s step.0 _ old new step.1 settled nothing))
  goes_other job m r here other enough calls (inr (inr (inl step))) =
      let at : (r.target ≡ step.0) × (next_column old.table r ≡ Some step.1) = some_of (relay_at old.table s) r (λ r. (r.target ≡ step.0) × (next_column old.table r ≡ Some step.1)) step.2.legal.1 here in
      goes_at (after old.table (entry.GaveUp job s step.0 step.1)) step.2.table (goes_other_ends old.table old.held new.held s c n test x settled.table kept m enough r here other calls job step.0 step.1 at.1 step.3)
  goes_other job m r here other enough calls (inr (inr (inr step))) =
      goes_at (after old.table (entry.Oddly job s step.2.0 step.1)) step.2.1.table (goes_other_oddly old.table old.held new.held s c n test x settled.table kept m enough r here other calls job step.2.0 step.1)

  -- the first relay of all
  goes_first : (job m : ℕ) → relay_at old.table s ≡ None → length old.table.relays ≡ 16 → Enough old.table s c test m → ahead old.table (first_of old.table.relays) + 1 + m ≤ n + 1
      → GoesBy job (first_of old.table.relays).stripe s c Extends old new → Nearer new s c n
  goes_first job m none full enough calls (inl step) =
      goes_at (after old.table (entry.Hop job (first_of old.table.relays).stripe step.0)) step.2.table (goes_first_hop old.table old.held new.held s c n test x settled.table kept m enough none full calls job step.0
      (some_of (relay_at old.table (first_of old.table.relays).stripe) (first_of old.table.relays) (λ r. next_column old.table r ≡ Some step.0) step.2.legal.1 (first_stands old.table.relays (some full))))
    where
      some : length old.table.relays ≡ 16 → length old.table.relays ≢ 0
      some full e = omega arith
  goes_first job m none full enough calls (inr (inl step)) =
      goes_at (after old.table (entry.Mended job (first_of old.table.relays).stripe step.0)) step.1.table
      (goes_first_mended old.table old.held new.held s c n test x settled.table kept m enough none full calls job step.0 step.1.legal.0.1)
  goes_first job m none full enough calls (inr (inr (inl step))) =
      goes_at (after old.table (entry.GaveUp job (first_of old.table.relays).stripe step.0 step.1)) step.2.table
      (goes_first_ends old.table old.held new.held s c n test x settled.table kept m enough none full calls job step.0 step.1
      (next_ahead old.table (first_of old.table.relays) step.1
      (some_of (relay_at old.table (first_of old.table.relays).stripe) (first_of old.table.relays) (λ r. (r.target ≡ step.0) × (next_column old.table r ≡ Some step.1)) step.2.legal.1 (first_stands old.table.relays (some full))).1).0)
    where
      some : length old.table.relays ≡ 16 → length old.table.relays ≢ 0
      some full e = omega arith
  goes_first job m none full enough calls (inr (inr (inr step))) =
      goes_at (after old.table (entry.Oddly job (first_of old.table.relays).stripe step.2.0 step.1)) step.2.1.table
      (goes_first_oddly old.table old.held new.held s c n test x settled.table kept m enough none full calls job step.2.0 step.1)

  -- the relay that a mend moves
  went : (job k : ℕ) → Left old.table s c test (n + 1) → MovesRelay old.table s c k → GoesBy job k s c Extends old new → Nearer new s c n
  went job k (Own r here own calls) (inl m) g = goes_own job r here own calls (subst (λ k. GoesBy job k s c Extends old new) m.1 g)
  went job k (Own r here own calls) (inr m) g = absurd (some_none r (sym here ∙ m.0))
  went job k (Other r a here other enough calls) (inl m) g = goes_other job a r here other enough calls (subst (λ k. GoesBy job k s c Extends old new) m.1 g)
  went job k (Other r a here other enough calls) (inr m) g = absurd (some_none r (sym here ∙ m.0))
  went job k (Free none few enough) (inl m) g = absurd (m.0 none)
  went job k (Free none few enough) (inr m) g = absurd (few m.2)
  went job k (Crowded a none full enough calls) (inl m) g = absurd (m.0 none)
  went job k (Crowded a none full enough calls) (inr m) g = goes_first job a none full enough calls (subst (λ k. GoesBy job k s c Extends old new) m.3 g)

  -- a relay of the place does not end oddly
  not_odd : (job k : ℕ) (wanted found : Digest) (o : Option Relay) → relay_at old.table k ≡ o → GoesBy job k s c (MendOdd wanted found) old new → ⊥
  not_odd job k wanted found None e g = subst (λ o. IsSomeAnd o (λ r. (k ≡ s) × (r.target ≡ c))) e g.1
  not_odd job k wanted found (Some r) e g =
      let own : (k ≡ s) × (r.target ≡ c) = subst (λ o. IsSomeAnd o (λ r. (k ≡ s) × (r.target ≡ c))) e g.1 in
      let at : (r.target ≡ g.0.0) × (next_column old.table r ≡ None) = some_of (relay_at old.table k) r (λ r. (r.target ≡ g.0.0) × (next_column old.table r ≡ None)) g.0.1.legal.1 e in
      x.none_broken c wanted x.column (subst (λ m. slot_at old.table m c ≡ Broken wanted) own.0 (subst (λ d. slot_at old.table k d ≡ Broken wanted) (sym at.0 ∙ own.1) g.0.3))

  pub nearer : (job : ℕ) (blind : List ℕ) (answer : MendAnswer) → Left old.table s c test (n + 1) → MendStep job s c blind answer old new → MendedWell answer → Nearer new s c n
  nearer job blind Began left step well = begins job blind step.0 left
  nearer job blind NoNeed left step well = absurd (true≢false (sym (lost_unsound (slot_at old.table s c) x.lost) ∙ step.1))
  nearer job blind (Stuck a b) left step well = absurd (some_none b (sym step.0.legal.3 ∙ not_stuck old.table old.held s c test x settled.table.size.parity.1))
  nearer job blind MendFull left step well = absurd well
  nearer job blind (MendFaulted d) left step well = absurd well
  nearer job blind (MendOdd wanted found) left step well = absurd (not_odd job step.1.0 wanted found (relay_at old.table step.1.0) refl step.1.2)
  nearer job blind Extends left step well = went job step.1.0 left step.1.1 step.1.2

-- a place that is sound stays so
sound_live : (g : GroupState) (s c : ℕ) → Sound (stripe_of g.table g.held s) c → is_unsound (slot_at g.table s c) ≡ true → ⊥
sound_live g s c y u = true≢false (sym u ∙ ap is_unsound y.1.live)

stays : (job s c : ℕ) (blind : List ℕ) (answer : MendAnswer) (old new : GroupState) → Sound (stripe_of old.table old.held s) c → MendStep job s c blind answer old new → MendedWell answer
    → Sound (stripe_of new.table new.held s) c
stays job s c blind Began old new y step well = absurd (sound_live old s c y (rebuilt (slot_at old.table s c) (old.table.parity ≡ 1) step.0.legal.1))
  where
    broken_unsound : (x : SlotState) → is_broken x ≡ true → is_unsound x ≡ true
    broken_unsound Void e = e
    broken_unsound (Live d) e = e
    broken_unsound (Lost d) e = refl
    broken_unsound (Broken d) e = refl

    rebuilt : (x : SlotState) (single : Type 0) → IsTrue (is_lost x) ⊎ (IsTrue (is_broken x) × single) → is_unsound x ≡ true
    rebuilt x single (inl e) = lost_unsound x e
    rebuilt x single (inr e) = broken_unsound x e.0
stays job s c blind NoNeed old new y step well = same step.0
  where
    same : Unchanged old new → Sound (stripe_of new.table new.held s) c
    same u = (
      y.0,
      record {
        digest = y.1.digest;
        live = ap (λ t. slot_at t s c) u.table ∙ y.1.live;
        held = u.held (serving_at new.table s c) s ∙ ap (λ t. held_at t old.held s c) u.table ∙ y.1.held;
        right = y.1.right;
      },
    )
stays job s c blind (Stuck a b) old new y step well = absurd (sound_live old s c y step.0.legal.1)
stays job s c blind MendFull old new y step well = absurd well
stays job s c blind (MendFaulted d) old new y step well = absurd well
stays job s c blind (MendOdd wanted found) old new y step well = absurd (sound_live old s c y step.0)
stays job s c blind Extends old new y step well = absurd (sound_live old s c y step.0)

-- MANY CALLS

-- a place that is sound stays so
all_stay : (n s c : ℕ) (old new : GroupState) → Sound (stripe_of old.table old.held s) c → MendsSoOften n s c old new → Sound (stripe_of new.table new.held s) c
all_stay zero s c old new y m = subst (λ g. Sound (stripe_of g.table g.held s) c) (sym m) y
all_stay (suc n) s c old new y m = all_stay n s c m.3 new (stays m.0 s c m.1 m.2 old m.3 y m.4 m.5) m.7

reached : (n s c : ℕ) (old new : GroupState) → Settled old → Nearer old s c n → MendsSoOften n s c old new → Sound (stripe_of new.table new.held s) c
reached n s c old new settled (inl y) m = all_stay n s c old new y m
reached zero s c old new settled (inr x) m = absurd (none_left old.table s c x.0 x.2)
reached (suc n) s c old new settled (inr x) m =
    reached n s c m.3 new (mend_step_keeps m.0 s c m.1 m.2 old m.3 m.4 settled)
    (nearer s c n x.0 old m.3 settled x.1 m.6 m.0 m.1 m.2 (subst (λ k. Left old.table s c x.0 k) (more n) x.2) m.4 m.5) m.7
  where
    more : (n : ℕ) → suc n ≡ n + 1
    more n = omega arith

-- THE LOOK

-- where one slot alone may be missing, it is the place's
alone : (t : Table) (h : Holdings) (s c : ℕ) (test : ℕ → Bool) → IsOpen t h s c test → t.parity ≡ 1 → (k : ℕ) → k < width t → test k ≡ true → k ≢ c → ⊥
alone t h s c test x one k lk e ne =
    let a : count (width t) test ≡ count (width t) (without test c) + 1 = count_without (width t) test c x.column x.here in
    let b : count (width t) (without test c) ≡ count (width t) (without (without test c) k) + 1 = count_without (width t) (without test c) k lk (passes_without test c k e ne) in
    let f : count (width t) test ≤ t.parity = x.few in omega arith

module _ (t : Table) (h : Holdings) (s c n : ℕ) (test : ℕ → Bool) (x : IsOpen t h s c test) (table : IsTable t) (needed : mends_needed t.data_columns t.parity ≤ n) where
  one_or_two : (p : ℕ) → 1 ≤ p → p ≤ 2 → (p ≡ 1) ⊎ (p ≡ 2)
  one_or_two p a b = grind arith

  needed_at : (p q d : ℕ) → p ≡ q → (1 + p) * d + (2 + p) ≤ n → (1 + q) * d + (2 + q) ≤ n
  needed_at p q d e l = subst (λ q. (1 + q) * d + (2 + q) ≤ n) e l

  few : (r : Relay) (m : ℕ) → relay_at t m ≡ Some r → ahead t r ≤ t.data_columns
  few r m here = ahead_few t r table (find_all (IsStanding t) (λ q. q.stripe == m) t.relays r table.relays.standing here)

  -- calls that are enough without a relay, and leave room for one more of them
  enough : (m : ℕ) × Enough t s c test m × (m + t.data_columns + 1 ≤ n)
  enough = elim (one_or_two t.parity table.size.parity.0 table.size.parity.1) [
    | inl one ↦ (t.data_columns + 2, inl (λ k lk e ne. absurd (alone t h s c test x one k lk e ne), omega arith), (let l : (1 + 1) * t.data_columns + (2 + 1) ≤ n = needed_at t.parity 1 t.data_columns one needed in omega arith))
    | inr both ↦ (t.data_columns + t.data_columns + 3, inr (omega arith), (let l : (1 + 2) * t.data_columns + (2 + 2) ≤ n = needed_at t.parity 2 t.data_columns both needed in omega arith))
  ]

  own_calls : (r : Relay) → relay_at t s ≡ Some r → r.target ≡ c → (IsClear t r test × (ahead t r + 1 ≤ n)) ⊎ (ahead t r + t.data_columns + 2 ≤ n)
  own_calls r here own = elim (one_or_two t.parity table.size.parity.0 table.size.parity.1) [
    | inl one ↦ inl (
      λ k lk e a. alone t h s c test x one k lk e (λ q. (ahead_means t r k a).0 (q ∙ sym own)),
      let f : ahead t r ≤ t.data_columns = few r s here in let l : (1 + 1) * t.data_columns + (2 + 1) ≤ n = needed_at t.parity 1 t.data_columns one needed in omega arith,
    )
    | inr both ↦ inr (let f : ahead t r ≤ t.data_columns = few r s here in let l : (1 + 2) * t.data_columns + (2 + 2) ≤ n = needed_at t.parity 2 t.data_columns both needed in omega arith)
  ]

  at_first : (o : Option Relay) → relay_at t s ≡ o → Left t s c test n
  at_first (Some r) here = elim (cases_eq r.target c) [
    | inl own ↦ Own r here own (own_calls r here own)
    | inr other ↦ Other r enough.0 here other enough.1 (let f : ahead t r ≤ t.data_columns = few r s here in let l : enough.0 + t.data_columns + 1 ≤ n = enough.2 in omega arith)
  ]
  at_first None none = elim (cases_eq (length t.relays) 16) [
    | inl full ↦ Crowded enough.0 none full enough.1
        (let f : ahead t (first_of t.relays) ≤ t.data_columns = few (first_of t.relays) (first_of t.relays).stripe (first_stands t.relays (some full)) in
        let l : enough.0 + t.data_columns + 1 ≤ n = enough.2 in omega arith)
    | inr free ↦ Free none free (more enough.0 enough.1 (let l : enough.0 + t.data_columns + 1 ≤ n = enough.2 in omega arith))
  ]
    where
      some : length t.relays ≡ 16 → length t.relays ≢ 0
      some full e = omega arith

      more : (m : ℕ) → Enough t s c test m → m ≤ n → Enough t s c test n
      more m (inl e) l = inl (e.0, let k : t.data_columns + 2 ≤ m = e.1 in omega arith)
      more m (inr e) l = inr (omega arith)

  pub starts : Left t s c test n
  starts = at_first (relay_at t s) refl

lost_after : (x : SlotState) → x ≢ Void → ((d : Digest) → x ≢ Broken d) → is_lost (lost_of x) ≡ true
lost_after Void v b = absurd (v refl)
lost_after (Live d) v b = refl
lost_after (Lost d) v b = refl
lost_after (Broken d) v b = absurd (b d refl)

opened : (job s c : ℕ) (t : Table) (h h' : Holdings) → IsTable t → s < t.stripes → (r : Rebuildable t.data_columns t.parity (stripe_of t h s) c) → KeepsHeld t h h'
    → IsOpen (after t (entry.Gone job s c)) h' s c r.few.0
opened job s c t h h' table ls r kept = record {
  stripe = ls;
  column = r.column;
  lost = ap is_lost (slot_same t s c (lost_of (slot_at t s c)) table.size.slots ls r.column) ∙ lost_after (slot_at t s c) r.not_void (λ d. r.none_broken c d r.column);
  none_broken = λ k d lk e. r.none_broken k d lk (broken_before (slot_at t s k) (slot_at (after t (entry.Gone job s c)) s k) d (slots_less t (entry.Gone job s c) s k tt) e);
  here = here;
  few = r.few.2;
  passes = λ k lk v m. elim (cases_eq k c) [
    | inl q ↦ ap r.few.0 q ∙ here
    | inr ne ↦
        let same : slot_at (after t (entry.Gone job s c)) s k ≡ slot_at t s k = slot_other t s c s k (lost_of (slot_at t s c)) r.column lk (λ q. ne q.1) in
        (r.few.1 k lk).1 (
          λ q. v (same ∙ q),
          λ y. m (
            y.0,
            record {
              digest = y.1.digest;
              live = same ∙ y.1.live;
              held = kept s k y.0 ls lk (ap is_live y.1.live) y.1.held;
              right = y.1.right;
            },
          ),
        )
  ];
}
  where
    here : r.few.0 c ≡ true
    here = (r.few.1 c r.column).1 (r.not_void, r.not_sound)

pub mending : MendingLaw
mending job s c n (Seen block) old looked new settled ls r look well nothing needed m = absurd (r.not_sound (block, look.means))
mending job s c n Faulted old looked new settled ls r look well nothing needed m = absurd well
mending job s c n LogFull old looked new settled ls r look well nothing needed m = absurd well
mending job s c n Gone old looked new settled ls r look well nothing needed m =
    let way : IsOpen (after old.table (entry.Gone job s c)) looked.held s c r.few.0 = opened job s c old.table old.held looked.held settled.table ls r nothing.kept in
    let found : Settled looked = look_keeps job s c Gone old looked look settled in
    let same : looked.table ≡ after old.table (entry.Gone job s c) = look.replay.1 in
    reached n s c looked new found (inr (
      r.few.0,
      subst (λ t. IsOpen t looked.held s c r.few.0) (sym same) way,
      starts looked.table looked.held s c n r.few.0 (subst (λ t. IsOpen t looked.held s c r.few.0) (sym same) way) found.table
          (subst (λ t. mends_needed t.data_columns t.parity ≤ n) (sym same) needed),
    )) m
