-- What each entry of a mend does to a place that is to be mended, and to the calls that are left.
use Rattle.std.proofs.Common.{◌≡◌, ◌≢◌, ◌⊎◌, inl, inr, ℕ, ◌+◌, ◌<◌, ◌≤◌, Bool, true, false, not, ◌&&◌, IsSomeAnd, Option, Some, None, map, length, refl, sym, ap, ap₂, ◌∙◌, subst, arith, nat_lt}
use Rattle.std.specs.Prelude.{◌==◌}
use Rattle.std.proofs.lemmas.Bool.Decides.{nat_tests}
use Rattle.std.proofs.lemmas.List.{length-map}
use Rattle.std.proofs.lemmas.Bool.{cases_eq, and_parts, cases_Bool}
use Rattle.pot_bytes.specs.declared.digest.Digest.{Digest}
use Rattle.pot_machine.specs.declared.slot.SlotState.{SlotState}
use Rattle.pot_machine.specs.declared.slot.SlotState.TheVariants.{Void, Live, Lost, Broken}
use Rattle.pot_machine.specs.declared.relay.Relay.{Relay}
use Rattle.pot_machine.specs.declared.entry.Entry.TheVariants.{Begin, Hop, Mended, GaveUp, Oddly}
use Rattle.pot_machine.specs.Slot.{is_live, is_lost, is_void, live_of, lost_of}
use Rattle.pot_machine.specs.Table.{Table, width, slot_at, serving_at, relay_at, first_beside, next_column, is_ahead, is_after, skipped}
use Rattle.pot_machine.specs.Machine.{Legal, after}
use Rattle.pot_machine.specs.Machine as machine
use Rattle.pot_machine.specs.Rules.{IsTable, IsStanding}
use Rattle.pot_machine.proofs.Kept.{after_keeps}
use Rattle.pot_machine.proofs.LeftAlone.{relays_stay}
use Rattle.pot_machine.proofs.Places.{slot_same, slot_other}
use Rattle.pot_machine.proofs.Searches.{least_some, least_none}
use Rattle.pot_steps.specs.Stripe.{Sound}
use Rattle.pot_steps.specs.Flight.{hopped}
use Rattle.pot_steps.specs.Flights.{begun_relay}
use Rattle.pot_steps.specs.Ahead.{ahead}
use Rattle.pot_steps.specs.Holdings.{Holdings, stripe_of}
use Rattle.pot_steps.specs.Losses.{KeepsHeld}
use Rattle.pot_steps.proofs.Acting.{find_all, slots_less, broken_before}
use Rattle.pot_steps.proofs.AheadLemmas.{ahead_few, ahead_hops, after_more}
use Rattle.pot_steps.proofs.CallLemmas.{relay_found}
use Rattle.pot_steps.proofs.Changes.{LostOrSame, live_before, lost_kept}
use Rattle.pot_steps.proofs.OpenPlaces.{IsOpen, NoneHidden, IsClear, Enough, Left, Own, Other, Free, Crowded, without, passes_without, first_of, first_stands, first_hopped, relay_over, relay_ended, ended_fewer, relay_hopped, lost_passes, one_beside}
use Rattle.pot_steps.proofs.Steps.{count-le}

pub some_of : {A : Type 0} (o : Option A) (a : A) (P : A → Type 0) → IsSomeAnd o P → o ≡ Some a → P a
some_of o a P h e = subst (λ o. IsSomeAnd o P) e h

-- COLUMNS AHEAD

-- a column that a relay has yet to go over
pub ahead_means : (t : Table) (r : Relay) (k : ℕ) → is_ahead t r k ≡ true → (k ≢ r.target) × (k ≢ skipped t.data_columns r.skip r.target) × (slot_at t r.stripe k ≢ Void)
ahead_means t r k e = parts (is_after r.last k) k r.target (skipped t.data_columns r.skip r.target) (slot_at t r.stripe k) e
  where
    parts : (a : Bool) (k x y : ℕ) (z : SlotState) → a && (not (k == x) && (not (k == y) && not (is_void z))) ≡ true → (k ≢ x) × (k ≢ y) × (z ≢ Void)
    parts false k x y z e = absurd (cc)
    parts true k x y Void e = absurd (grind (arith, nat_tests))
    parts true k x y (Live d) e = (grind (arith, nat_tests), grind (arith, nat_tests), λ q. (let f : false ≡ true = ap is_void q in cc))
    parts true k x y (Lost d) e = (grind (arith, nat_tests), grind (arith, nat_tests), λ q. (let f : false ≡ true = ap is_void q in cc))
    parts true k x y (Broken d) e = (grind (arith, nat_tests), grind (arith, nat_tests), λ q. (let f : false ≡ true = ap is_void q in cc))

-- the next column is ahead
pub next_ahead : (t : Table) (r : Relay) (k : ℕ) → next_column t r ≡ Some k → (k < width t) × (is_ahead t r k ≡ true)
next_ahead t r k e = (let f : (k < width t) × (is_ahead t r k ≡ true) × ((j : ℕ) → j < k → is_ahead t r j ≡ false) = least_some (width t) (is_ahead t r) k e in (f.0, f.1))

-- what is ahead after a hop was so before
pub ahead_before : (t : Table) (r : Relay) (k j : ℕ) → next_column t r ≡ Some k → is_ahead t (hopped r k) j ≡ true → is_ahead t r j ≡ true
ahead_before t r k j e h =
    let rest : ℕ → Bool = λ k. not (k == r.target) && (not (k == skipped t.data_columns r.skip r.target) && not (is_void (slot_at t r.stripe k))) in
    both (is_after r.last j) (nat_lt k j) (rest j) h (λ l. after_more r.last k j (and_parts (is_after r.last k) (rest k) (next_ahead t r k e).1).0 (above k j l))
  where
    above : (k j : ℕ) → nat_lt k j ≡ true → k < j
    above k j l = grind (arith, nat_tests)

    both : (a b x : Bool) → b && x ≡ true → (b ≡ true → a ≡ true) → a && x ≡ true
    both a true x h f = rw (f refl) h
    both a false x h f = absurd (cc)

-- A STRIPE AFTER AN ENTRY

abbrev pub Goes : Table → Holdings → ℕ → ℕ → ℕ → Type 0
Goes t h s c n = (test : ℕ → Bool) × IsOpen t h s c test × Left t s c test n

-- a table with the same sizes, where the same archives serve the stripe
module _ (t u : Table) (h h' : Holdings) (s c : ℕ) (test : ℕ → Bool) (x : IsOpen t h s c test) (kept : KeepsHeld t h h')
    (data_columns : u.data_columns ≡ t.data_columns) (parity : u.parity ≡ t.parity) (stripes : u.stripes ≡ t.stripes)
    (serves : (k : ℕ) → serving_at u s k ≡ serving_at t s k) where
  wide : width u ≡ width t
  wide = ap₂ (λ a b. a + b) data_columns parity

  -- a place whose slot stays
  pub carried : (k : ℕ) → k < width t → slot_at u s k ≡ slot_at t s k → Sound (stripe_of t h s) k → Sound (stripe_of u h' s) k
  carried k lk same y = (
    y.0,
    record {
      digest = y.1.digest;
      live = same ∙ y.1.live;
      held = ap (λ a. h' a s) (serves k) ∙ kept s k y.0 x.stripe lk (ap is_live y.1.live) y.1.held;
      right = y.1.right;
    },
  )

  -- each slot stays or becomes Lost, and those that fail the test stay
  pub open_less : ((k : ℕ) → LostOrSame (slot_at t s k) (slot_at u s k)) → ((k : ℕ) → k < width t → test k ≡ false → slot_at u s k ≡ slot_at t s k) → IsOpen u h' s c test
  open_less slots same = record {
    stripe = let l : s < t.stripes = x.stripe in omega arith;
    column = let l : c < width t = x.column in let w : width u ≡ width t = wide in omega arith;
    lost = lost_kept (slot_at t s c) (slot_at u s c) (slots c) x.lost;
    none_broken = λ k d lk e. x.none_broken k d (let w : width u ≡ width t = wide in omega arith) (broken_before (slot_at t s k) (slot_at u s k) d (slots k) e);
    here = x.here;
    few = rw (wide, parity) x.few;
    passes = λ k lk v m. elim (cases_Bool (test k)) [
      | inl e ↦ e
      | inr e ↦ (let l : k < width t = (let w : width u ≡ width t = wide in omega arith) in x.passes k l (λ q. v (same k l e ∙ q)) (λ y. m (carried k l (same k l e) y)))
    ];
  }

  -- another slot becomes sound, and all others stay
  pub open_mended : (d : ℕ) → d ≢ c → Sound (stripe_of u h' s) d → ((k : ℕ) → k < width t → k ≢ d → slot_at u s k ≡ slot_at t s k) → IsOpen u h' s c (without test d)
  open_mended d ne sound same = record {
    stripe = let l : s < t.stripes = x.stripe in omega arith;
    column = let l : c < width t = x.column in let w : width u ≡ width t = wide in omega arith;
    lost = ap is_lost (same c x.column (λ e. ne (sym e))) ∙ x.lost;
    none_broken = λ k e lk b. elim (cases_eq k d) [
      | inl q ↦ live_broken (slot_at u s d) sound.1.digest e sound.1.live (sym (ap (λ k. slot_at u s k) q) ∙ b)
      | inr nk ↦ x.none_broken k e (let w : width u ≡ width t = wide in omega arith) (sym (same k (let w : width u ≡ width t = wide in omega arith) nk) ∙ b)
    ];
    here = passes_without test d c x.here (λ e. ne (sym e));
    few = rw (wide, parity) (le (count-le (width t) (without test d) test (λ k lk e. (and_parts (test k) (not (k == d)) e).0)) x.few);
    passes = λ k lk v m. elim (cases_eq k d) [
      | inl q ↦ absurd (m (subst (λ k. Sound (stripe_of u h' s) k) (sym q) sound))
      | inr nk ↦ (let l : k < width t = (let w : width u ≡ width t = wide in omega arith) in passes_without test d k (x.passes k l (λ q. v (same k l nk ∙ q)) (λ y. m (carried k l (same k l nk) y))) nk)
    ];
  }
    where
      live_broken : (y : SlotState) (a b : Digest) → y ≡ Live a → y ≡ Broken b → ⊥
      live_broken y a b e f = no (sym e ∙ f)
        where
          no : Live a ≡ Broken b → ⊥
          no e = cc

      le : {a b n : ℕ} → a ≤ b → b ≤ n → a ≤ n
      le l m = omega arith

-- what is enough stays so where nothing else becomes Live
enough_less : (t u : Table) (s c n : ℕ) (test test' : ℕ → Bool) → u.data_columns ≡ t.data_columns → width u ≡ width t
    → ((k : ℕ) → k < width t → test' k ≡ true → k ≢ c → (test k ≡ true) × (is_live (slot_at t s k) ≡ false → is_live (slot_at u s k) ≡ false))
    → Enough t s c test n → Enough u s c test' n
enough_less t u s c n test test' dc w less (inl x) = inl (
  λ k lk e ne. (let l : k < width t = omega arith in (less k l e ne).1 (x.0 k l (less k l e ne).0 ne)),
  let l : t.data_columns + 2 ≤ n = x.1 in omega arith,
)
enough_less t u s c n test test' dc w less (inr x) = inr (omega arith)

enough_more : (t : Table) (s c m n : ℕ) (test : ℕ → Bool) → m ≤ n → Enough t s c test m → Enough t s c test n
enough_more t s c m n test le (inl x) = inl (x.0, let l : t.data_columns + 2 ≤ m = x.1 in omega arith)
enough_more t s c m n test le (inr x) = inr (omega arith)

dead_kept : (x y : SlotState) → LostOrSame x y → is_live x ≡ false → is_live y ≡ false
dead_kept x y l e = by (is_live y) (λ f. live_before x y l f)
  where
    no : false ≡ true → ⊥
    no e = cc

    by : (b : Bool) → (b ≡ true → is_live x ≡ true) → b ≡ false
    by true f = absurd (no (sym e ∙ f refl))
    by false f = refl

lost_dead : (x : SlotState) → is_live (lost_of x) ≡ false
lost_dead Void = refl
lost_dead (Live d) = refl
lost_dead (Lost d) = refl
lost_dead (Broken d) = refl

lost_not_live : (x : SlotState) → is_lost x ≡ true → is_live x ≡ false
lost_not_live Void e = absurd (cc)
lost_not_live (Live d) e = absurd (cc)
lost_not_live (Lost d) e = refl
lost_not_live (Broken d) e = absurd (cc)

-- EACH ENTRY

module _ (t : Table) (h h' : Holdings) (s c n : ℕ) (test : ℕ → Bool) (x : IsOpen t h s c test) (table : IsTable t) (kept : KeepsHeld t h h') where
  two : t.parity ≤ 2
  two = table.size.parity.1

  fewer : (m : ℕ) (r : Relay) → relay_at t m ≡ Some r → length (machine.without_relay t m).relays ≢ 16
  fewer m r here e = (let l : length (machine.without_relay t m).relays < length t.relays = ended_fewer t.relays m r here in let z : length t.relays ≤ 16 = table.size.relays in omega arith)

  -- a relay begins at the place
  pub goes_begin : (job : ℕ) → Legal t (Begin job s c) → Enough t s c test (n + 1) → Goes (after t (Begin job s c)) h' s c n
  goes_begin job legal enough = (
    test,
    open_less t (after t (Begin job s c)) h h' s c test x kept refl refl refl (λ k. refl) (λ k. inl refl) (λ k lk e. refl),
    Own (begun_relay t s c) here refl (calls enough),
  )
    where
      here : relay_at (after t (Begin job s c)) s ≡ Some (begun_relay t s c)
      here = relay_found t (after t (Begin job s c)) job s c (relay_at (after t (Begin job s c)) s) legal refl refl

      few : ahead (after t (Begin job s c)) (begun_relay t s c) ≤ t.data_columns
      few = ahead_few (after t (Begin job s c)) (begun_relay t s c) (after_keeps t (Begin job s c) table legal)
          (find_all (IsStanding (after t (Begin job s c))) (λ q. q.stripe == s) (after t (Begin job s c)).relays (begun_relay t s c) (after_keeps t (Begin job s c) table legal).relays.standing here)

      clear : NoneHidden t s c test → IsClear (after t (Begin job s c)) (begun_relay t s c) test
      clear hidden k lk pass ahead =
          let a : (k ≢ c) × (k ≢ skipped t.data_columns (first_beside t s c is_lost) c) × (slot_at t s k ≢ Void) = ahead_means (after t (Begin job s c)) (begun_relay t s c) k ahead in
          let lost : is_lost (slot_at t s k) ≡ true = dead_lost (slot_at t s k) a.2 (λ d. x.none_broken k d lk) (hidden k lk pass a.0) in
          skips (first_beside t s c is_lost) refl a.1 a.0 lost
        where
          dead_lost : (y : SlotState) → y ≢ Void → ((d : Digest) → y ≢ Broken d) → is_live y ≡ false → is_lost y ≡ true
          dead_lost Void v b l = absurd (v refl)
          dead_lost (Live d) v b l = absurd (cc)
          dead_lost (Lost d) v b l = refl
          dead_lost (Broken d) v b l = absurd (b d refl)

          beside : (k c : ℕ) (b : Bool) → k ≢ c → b ≡ true → not (k == c) && b ≡ true
          beside k c true ne e = grind (arith, nat_tests)
          beside k c false ne e = absurd (cc)

          apart : (k c : ℕ) (b : Bool) → not (k == c) && b ≡ true → (k ≢ c) × (b ≡ true)
          apart k c true e = (grind (arith, nat_tests), refl)
          apart k c false e = absurd (grind (arith, nat_tests))

          no : true ≡ false → ⊥
          no e = cc

          skips : (o : Option ℕ) → first_beside t s c is_lost ≡ o → k ≢ skipped t.data_columns o c → k ≢ c → is_lost (slot_at t s k) ≡ true → ⊥
          skips None e ns nc lost = no (sym (beside k c (is_lost (slot_at t s k)) nc lost) ∙ least_none (width t) (λ j. not (j == c) && is_lost (slot_at t s j)) e k lk)
          skips (Some u) e ns nc lost =
              let f : (u < width t) × (not (u == c) && is_lost (slot_at t s u) ≡ true) × ((j : ℕ) → j < u → not (j == c) && is_lost (slot_at t s j) ≡ false) =
              least_some (width t) (λ j. not (j == c) && is_lost (slot_at t s j)) u e in
              let g : (u ≢ c) × (is_lost (slot_at t s u) ≡ true) = apart u c (is_lost (slot_at t s u)) f.1 in
              ns (one_beside t h s c test x two u k f.0 lk (lost_passes t h s c test x two u f.0 g.1) pass g.0 nc)

      calls : Enough t s c test (n + 1) → (IsClear (after t (Begin job s c)) (begun_relay t s c) test × (ahead (after t (Begin job s c)) (begun_relay t s c) + 1 ≤ n)) ⊎ (ahead (after t (Begin job s c)) (begun_relay t s c) + t.data_columns + 2 ≤ n)
      calls (inl e) = inl (clear e.0, let f : ahead (after t (Begin job s c)) (begun_relay t s c) ≤ t.data_columns = few in let l : t.data_columns + 2 ≤ n + 1 = e.1 in omega arith)
      calls (inr e) = inr (let f : ahead (after t (Begin job s c)) (begun_relay t s c) ≤ t.data_columns = few in omega arith)

  -- A RELAY OF THE PLACE

  module _ (r : Relay) (here : relay_at t s ≡ Some r) (own : r.target ≡ c) (calls : (IsClear t r test × (ahead t r + 1 ≤ n + 1)) ⊎ (ahead t r + t.data_columns + 2 ≤ n + 1)) where
    pub goes_own_hop : (job k : ℕ) → next_column t r ≡ Some k → Goes (after t (Hop job s k)) h' s c n
    goes_own_hop job k next = (
      test,
      open_less t (after t (Hop job s k)) h h' s c test x kept refl refl refl (λ k. refl) (λ k. inl refl) (λ k lk e. refl),
      Own (hopped r k) (relay_hopped t.relays s k r here) own (fewer_calls calls),
    )
      where
        fewer_calls : (IsClear t r test × (ahead t r + 1 ≤ n + 1)) ⊎ (ahead t r + t.data_columns + 2 ≤ n + 1)
            → (IsClear t (hopped r k) test × (ahead t (hopped r k) + 1 ≤ n)) ⊎ (ahead t (hopped r k) + t.data_columns + 2 ≤ n)
        fewer_calls (inl e) = inl (
          λ j lj pass a. e.0 j lj pass (ahead_before t r k j next a),
          let one : ahead t r ≡ ahead t (hopped r k) + 1 = ahead_hops t r k next in let l : ahead t r + 1 ≤ n + 1 = e.1 in omega arith,
        )
        fewer_calls (inr e) = inr (let one : ahead t r ≡ ahead t (hopped r k) + 1 = ahead_hops t r k next in omega arith)

    -- the column that it comes to has no block
    pub goes_own_ends : (job d k : ℕ) → next_column t r ≡ Some k → (Sound (stripe_of t h' s) k → ⊥) → Goes (after t (GaveUp job s d k)) h' s c n
    goes_own_ends job d k next missing = (
      test,
      open_less t (after t (GaveUp job s d k)) h h' s c test x kept refl refl refl (λ k. refl) (λ j. slots_less t (GaveUp job s d k) s j tt)
          (λ j lj e. slot_other t s k s j (lost_of (slot_at t s k)) within lj (λ q. apart (sym (ap test q.1 ∙ pass) ∙ e))),
      Free (relay_ended t.relays s) (fewer s r here) (inl (hidden, left calls)),
    )
      where
        apart : true ≡ false → ⊥
        apart e = cc

        within : k < width t
        within = (next_ahead t r k next).0

        means : (k ≢ r.target) × (k ≢ skipped t.data_columns r.skip r.target) × (slot_at t r.stripe k ≢ Void)
        means = ahead_means t r k (next_ahead t r k next).1

        not_place : k ≢ c
        not_place e = means.0 (e ∙ sym own)

        pass : test k ≡ true
        pass = x.passes k within (λ e. means.2 (ap (λ m. slot_at t m k) (relay_over t.relays s r here) ∙ e))
            (λ y. missing (y.0, record { digest = y.1.digest; live = y.1.live; held = kept s k y.0 x.stripe within (ap is_live y.1.live) y.1.held; right = y.1.right }))

        hidden : NoneHidden (after t (GaveUp job s d k)) s c test
        hidden j lj e ne = subst (λ j. is_live (slot_at (after t (GaveUp job s d k)) s j) ≡ false) (sym (one_beside t h s c test x two k j within lj pass e not_place ne))
            (ap is_live (slot_same t s k (lost_of (slot_at t s k)) table.size.slots x.stripe within) ∙ lost_dead (slot_at t s k))

        left : (IsClear t r test × (ahead t r + 1 ≤ n + 1)) ⊎ (ahead t r + t.data_columns + 2 ≤ n + 1) → t.data_columns + 2 ≤ n
        left (inl e) = absurd (e.0 k within pass (next_ahead t r k next).1)
        left (inr e) = (let one : ahead t r ≡ ahead t (hopped r k) + 1 = ahead_hops t r k next in omega arith)

  -- ANOTHER RELAY, OF THE SAME STRIPE OR OF ANOTHER

  module _ (m : ℕ) (enough : Enough t s c test m) where
    enough_same : (u : Table) → u.data_columns ≡ t.data_columns → width u ≡ width t → ((k : ℕ) → LostOrSame (slot_at t s k) (slot_at u s k)) → Enough u s c test m
    enough_same u dc w slots = enough_less t u s c m test test dc w (λ k lk e ne. (e, dead_kept (slot_at t s k) (slot_at u s k) (slots k))) enough

    module _ (r : Relay) (here : relay_at t s ≡ Some r) (other : r.target ≢ c) (calls : ahead t r + 1 + m ≤ n + 1) where
      pub goes_other_hop : (job k : ℕ) → next_column t r ≡ Some k → Goes (after t (Hop job s k)) h' s c n
      goes_other_hop job k next = (
        test,
        open_less t (after t (Hop job s k)) h h' s c test x kept refl refl refl (λ k. refl) (λ k. inl refl) (λ k lk e. refl),
        Other (hopped r k) m (relay_hopped t.relays s k r here) other (enough_same (after t (Hop job s k)) refl refl (λ k. inl refl))
            (let one : ahead t r ≡ ahead t (hopped r k) + 1 = ahead_hops t r k next in omega arith),
      )

      pub goes_other_ends : (job d k : ℕ) → next_column t r ≡ Some k → (Sound (stripe_of t h' s) k → ⊥) → Goes (after t (GaveUp job s d k)) h' s c n
      goes_other_ends job d k next missing = (
        test,
        open_less t (after t (GaveUp job s d k)) h h' s c test x kept refl refl refl (λ k. refl) (λ j. slots_less t (GaveUp job s d k) s j tt)
            (λ j lj e. slot_other t s k s j (lost_of (slot_at t s k)) within lj (λ q. apart (sym (ap test q.1 ∙ pass) ∙ e))),
        Free (relay_ended t.relays s) (fewer s r here)
            (enough_more (after t (GaveUp job s d k)) s c m n test (omega arith) (enough_same (after t (GaveUp job s d k)) refl refl (λ j. slots_less t (GaveUp job s d k) s j tt))),
      )
        where
          apart : true ≡ false → ⊥
          apart e = cc

          within : k < width t
          within = (next_ahead t r k next).0

          pass : test k ≡ true
          pass = x.passes k within (λ e. (ahead_means t r k (next_ahead t r k next).1).2 (ap (λ m. slot_at t m k) (relay_over t.relays s r here) ∙ e))
              (λ y. missing (y.0, record { digest = y.1.digest; live = y.1.live; held = kept s k y.0 x.stripe within (ap is_live y.1.live) y.1.held; right = y.1.right }))

      pub goes_other_mended : (job d : ℕ) → d < width t → d ≢ c → Sound (stripe_of (after t (Mended job s d)) h' s) d → Goes (after t (Mended job s d)) h' s c n
      goes_other_mended job d ld ne sound = (
        without test d,
        open_mended t (after t (Mended job s d)) h h' s c test x kept refl refl refl (λ k. refl) d ne sound (λ k lk nk. stays k lk nk),
        Free (relay_ended t.relays s) (fewer s r here) (enough_more (after t (Mended job s d)) s c m n (without test d) (omega arith)
            (enough_less t (after t (Mended job s d)) s c m test (without test d) refl refl
            (λ k lk e nc. ((and_parts (test k) (not (k == d)) e).0, λ l. ap is_live (stays k lk (differ k (test k) e)) ∙ l)) enough)),
      )
        where
          stays : (k : ℕ) → k < width t → k ≢ d → slot_at (after t (Mended job s d)) s k ≡ slot_at t s k
          stays k lk nk = slot_other t s d s k (live_of (slot_at t s d)) ld lk (λ q. nk q.1)

          differ : (k : ℕ) (b : Bool) → b && not (k == d) ≡ true → k ≢ d
          differ k true e = grind (arith, nat_tests)
          differ k false e = absurd (cc)

      pub goes_other_oddly : (job d : ℕ) (found : Digest) → Goes (after t (Oddly job s d found)) h' s c n
      goes_other_oddly job d found = (
        test,
        open_less t (after t (Oddly job s d found)) h h' s c test x kept refl refl refl (λ k. refl) (λ k. inl refl) (λ k lk e. refl),
        Free (relay_ended t.relays s) (fewer s r here) (enough_more (after t (Oddly job s d found)) s c m n test (omega arith) (enough_same (after t (Oddly job s d found)) refl refl (λ k. inl refl))),
      )

    -- the first relay of all, which stands in another stripe
    module _ (none : relay_at t s ≡ None) (full : length t.relays ≡ 16) (calls : ahead t (first_of t.relays) + 1 + m ≤ n + 1) where
      some : length t.relays ≢ 0
      some e = omega arith

      pub elsewhere : (first_of t.relays).stripe ≢ s
      elsewhere e = no (sym none ∙ ap (λ n. relay_at t n) (sym e) ∙ first_stands t.relays some)
        where
          no : None ≡ Some (first_of t.relays) → ⊥
          no e = cc

      pub goes_first_hop : (job k : ℕ) → next_column t (first_of t.relays) ≡ Some k → Goes (after t (Hop job (first_of t.relays).stripe k)) h' s c n
      goes_first_hop job k next = (
        test,
        open_less t (after t (Hop job (first_of t.relays).stripe k)) h h' s c test x kept refl refl refl (λ k. refl) (λ k. inl refl) (λ k lk e. refl),
        Crowded m (relays_stay t (Hop job (first_of t.relays).stripe k) s (λ e. elsewhere (sym e)) ∙ none) (length-map t.relays (machine.hopped (first_of t.relays).stripe k) ∙ full)
            (enough_same (after t (Hop job (first_of t.relays).stripe k)) refl refl (λ k. inl refl))
            (let one : ahead t (first_of t.relays) ≡ ahead t (hopped (first_of t.relays) k) + 1 = ahead_hops t (first_of t.relays) k next in
            let same : ahead t (first_of (map (machine.hopped (first_of t.relays).stripe k) t.relays)) ≡ ahead t (hopped (first_of t.relays) k) = ap (ahead t) (first_hopped t.relays k some) in omega arith),
      )

      pub goes_first_ends : (job d k : ℕ) → k < width t → Goes (after t (GaveUp job (first_of t.relays).stripe d k)) h' s c n
      goes_first_ends job d k lk = (
        test,
        open_less t (after t (GaveUp job (first_of t.relays).stripe d k)) h h' s c test x kept refl refl refl (λ k. refl) (λ j. slots_less t (GaveUp job (first_of t.relays).stripe d k) s j tt)
            (λ j lj e. slot_other t (first_of t.relays).stripe k s j (lost_of (slot_at t (first_of t.relays).stripe k)) lk lj (λ q. elsewhere (sym q.0))),
        Free (relays_stay t (GaveUp job (first_of t.relays).stripe d k) s (λ e. elsewhere (sym e)) ∙ none) (fewer (first_of t.relays).stripe (first_of t.relays) (first_stands t.relays some))
            (enough_more (after t (GaveUp job (first_of t.relays).stripe d k)) s c m n test (omega arith)
            (enough_same (after t (GaveUp job (first_of t.relays).stripe d k)) refl refl (λ j. slots_less t (GaveUp job (first_of t.relays).stripe d k) s j tt))),
      )

      pub goes_first_mended : (job d : ℕ) → d < width t → Goes (after t (Mended job (first_of t.relays).stripe d)) h' s c n
      goes_first_mended job d ld = (
        test,
        record {
          stripe = x.stripe;
          column = x.column;
          lost = ap is_lost (stays c x.column) ∙ x.lost;
          none_broken = λ k e lk b. x.none_broken k e lk (sym (stays k lk) ∙ b);
          here = x.here;
          few = x.few;
          passes = λ k lk v m. x.passes k lk (λ q. v (stays k lk ∙ q)) (λ y. m (carried t (after t (Mended job (first_of t.relays).stripe d)) h h' s c test x kept refl refl refl (λ k. refl) k lk (stays k lk) y));
        },
        Free (relays_stay t (Mended job (first_of t.relays).stripe d) s (λ e. elsewhere (sym e)) ∙ none) (fewer (first_of t.relays).stripe (first_of t.relays) (first_stands t.relays some))
            (enough_more (after t (Mended job (first_of t.relays).stripe d)) s c m n test (omega arith)
            (enough_less t (after t (Mended job (first_of t.relays).stripe d)) s c m test test refl refl (λ k lk e ne. (e, λ l. ap is_live (stays k lk) ∙ l)) enough)),
      )
        where
          stays : (k : ℕ) → k < width t → slot_at (after t (Mended job (first_of t.relays).stripe d)) s k ≡ slot_at t s k
          stays k lk = slot_other t (first_of t.relays).stripe d s k (live_of (slot_at t (first_of t.relays).stripe d)) ld lk (λ q. elsewhere (sym q.0))

      pub goes_first_oddly : (job d : ℕ) (found : Digest) → Goes (after t (Oddly job (first_of t.relays).stripe d found)) h' s c n
      goes_first_oddly job d found = (
        test,
        open_less t (after t (Oddly job (first_of t.relays).stripe d found)) h h' s c test x kept refl refl refl (λ k. refl) (λ k. inl refl) (λ k lk e. refl),
        Free (relays_stay t (Oddly job (first_of t.relays).stripe d found) s (λ e. elsewhere (sym e)) ∙ none) (fewer (first_of t.relays).stripe (first_of t.relays) (first_stands t.relays some))
            (enough_more (after t (Oddly job (first_of t.relays).stripe d found)) s c m n test (omega arith)
            (enough_same (after t (Oddly job (first_of t.relays).stripe d found)) refl refl (λ k. inl refl))),
      )
