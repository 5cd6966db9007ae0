-- A place that is to be mended: what its stripe keeps on the way, and how many calls are left.
use Rattle.std.proofs.Common.{◌≡◌, ◌≢◌, ◌⊎◌, inl, inr, ℕ, suc, ◌+◌, ◌<◌, ◌≤◌, Bool, true, false, not, ◌&&◌, Option, Some, None, List, [], ◌∷◌, map, filter, cond, length, refl, sym, ap, ◌∙◌, arith, nat_le, if◌then◌else◌}
use Rattle.std.specs.Prelude.{◌==◌, slice_index_or}
use Rattle.std.proofs.lemmas.Bool.Decides.{nat_tests}
use Rattle.std.proofs.lemmas.Bool.{cases_eq}
use Rattle.pot_bytes.specs.declared.digest.Digest.{Digest}
use Rattle.pot_machine.specs.declared.slot.SlotState.{SlotState}
use Rattle.pot_machine.specs.declared.slot.SlotState.TheVariants.{Void, Live, Lost, Broken}
use Rattle.pot_machine.specs.declared.relay.Relay.{Relay}
use Rattle.pot_machine.specs.Slot.{is_live, is_lost, is_broken, is_unsound}
use Rattle.pot_machine.specs.Table.{Table, width, slot_at, relay_at, relay_in, count, first, first_beside, count_beside, is_ahead}
use Rattle.pot_machine.specs.Machine.{stuck_by}
use Rattle.pot_machine.specs.Machine as machine
use Rattle.pot_machine.proofs.Searches.{none_least}
use Rattle.pot_steps.specs.Stripe.{Sound, NoneBroken}
use Rattle.pot_steps.specs.Flight.{hopped}
use Rattle.pot_steps.specs.Ahead.{ahead}
use Rattle.pot_steps.specs.Holdings.{Holdings, stripe_of}
use Rattle.pot_steps.specs.RelaySteps.{no_relay}
use Rattle.pot_steps.proofs.AheadLemmas.{count_one}
use Rattle.pot_steps.proofs.Steps.{count-le}

-- COUNTING

-- the test, but for one number
abbrev pub without : (ℕ → Bool) → ℕ → ℕ → Bool
without test c k = test k && not (k == c)

without_other : (b : Bool) (k c : ℕ) → k ≢ c → b ≡ b && not (k == c)
without_other true k c ne = grind (arith, nat_tests)
without_other false k c ne = refl

without_here : (b : Bool) (c : ℕ) → b && not (c == c) ≡ false
without_here true c = grind (arith, nat_tests)
without_here false c = refl

pub count_without : (n : ℕ) (test : ℕ → Bool) (c : ℕ) → c < n → test c ≡ true → count n test ≡ count n (without test c) + 1
count_without n test c lt t = count_one n test (without test c) c lt t (without_here (test c) c) (λ k lk ne. without_other (test k) k c ne)

pub passes_without : (test : ℕ → Bool) (c k : ℕ) → test k ≡ true → k ≢ c → without test c k ≡ true
passes_without test c k t ne = sym (without_other (test k) k c ne) ∙ t

-- where at most two numbers pass, a third does not
pub third_is : (n : ℕ) (test : ℕ → Bool) (a b k : ℕ) → count n test ≤ 2 → a < n → b < n → k < n → test a ≡ true → test b ≡ true → test k ≡ true → b ≢ a → k ≢ a → k ≡ b
third_is n test a b k few la lb lk ta tb tk nb nk = elim (cases_eq k b) [
  | inl e ↦ e
  | inr ne ↦
      let one : count n test ≡ count n (without test a) + 1 = count_without n test a la ta in
      let two : count n (without test a) ≡ count n (without (without test a) b) + 1 = count_without n (without test a) b lb (passes_without test a b tb nb) in
      let more : count n (without (without test a) b) ≡ count n (without (without (without test a) b) k) + 1 =
      count_without n (without (without test a) b) k lk (passes_without (without test a) b k (passes_without test a k tk nk) ne) in
      absurd (omega arith)
]

-- RELAYS AS A LIST

pub relay_over : (relays : List Relay) (n : ℕ) (r : Relay) → relay_in relays n ≡ Some r → r.stripe ≡ n
relay_over [] n r e = absurd (cc)
relay_over (x ∷ relays) n r e = step (relay_over relays n r) (x.stripe == n) refl e
  where
    same : (a b : ℕ) → (a == b) ≡ true → a ≡ b
    same a b h = grind (arith, nat_tests)

    is : (a b : Relay) → Some a ≡ Some b → a ≡ b
    is a b h = cc

    step : (relay_in relays n ≡ Some r → r.stripe ≡ n) → (b : Bool) → (x.stripe == n) ≡ b → cond b (Some x) (relay_in relays n) ≡ Some r → r.stripe ≡ n
    step rest true h q = ap (λ (g : Relay). g.stripe) (sym (is x r q)) ∙ same x.stripe n h
    step rest false h q = rest q

pub relay_ended : (relays : List Relay) (s : ℕ) → relay_in (filter (λ r. not (r.stripe == s)) relays) s ≡ None
relay_ended [] s = refl
relay_ended (x ∷ relays) s = step (relay_ended relays s) (x.stripe == s) refl
  where
    step : relay_in (filter (λ r. not (r.stripe == s)) relays) s ≡ None → (b : Bool) → (x.stripe == s) ≡ b
        → relay_in (cond (not (x.stripe == s)) (x ∷ filter (λ r. not (r.stripe == s)) relays) (filter (λ r. not (r.stripe == s)) relays)) s ≡ None
    step rest true e = rw e rest
    step rest false e = rw (e, e) rest

filter_fewer : (relays : List Relay) (s : ℕ) → length (filter (λ r. not (r.stripe == s)) relays) ≤ length relays
filter_fewer [] s = omega arith
filter_fewer (x ∷ relays) s = step (filter_fewer relays s) (x.stripe == s)
  where
    step : length (filter (λ r. not (r.stripe == s)) relays) ≤ length relays → (b : Bool)
        → length (cond (not b) (x ∷ filter (λ r. not (r.stripe == s)) relays) (filter (λ r. not (r.stripe == s)) relays)) ≤ suc (length relays)
    step rest true = omega arith
    step rest false = omega arith

-- one fewer where a relay stood there
pub ended_fewer : (relays : List Relay) (s : ℕ) (r : Relay) → relay_in relays s ≡ Some r → length (filter (λ r. not (r.stripe == s)) relays) < length relays
ended_fewer [] s r e = absurd (cc)
ended_fewer (x ∷ relays) s r e = step (ended_fewer relays s r) (filter_fewer relays s) (x.stripe == s) e
  where
    step : (relay_in relays s ≡ Some r → length (filter (λ r. not (r.stripe == s)) relays) < length relays) → length (filter (λ r. not (r.stripe == s)) relays) ≤ length relays
        → (b : Bool) → cond b (Some x) (relay_in relays s) ≡ Some r
        → length (cond (not b) (x ∷ filter (λ r. not (r.stripe == s)) relays) (filter (λ r. not (r.stripe == s)) relays)) < suc (length relays)
    step rest few true q = omega arith
    step rest few false q = (let h : length (filter (λ r. not (r.stripe == s)) relays) < length relays = rest q in omega arith)

hopped_is : (r : Relay) (s c : ℕ) → r.stripe ≡ s → machine.hopped s c r ≡ hopped r c
hopped_is r s c e = ap (λ b. record r { last = if b then Some c else r.last }) (here r.stripe s e)
  where
    here : (a b : ℕ) → a ≡ b → (a == b) ≡ true
    here a b e = grind (arith, nat_tests)

pub relay_hopped : (relays : List Relay) (s c : ℕ) (r : Relay) → relay_in relays s ≡ Some r → relay_in (map (machine.hopped s c) relays) s ≡ Some (hopped r c)
relay_hopped relays s c r e = found relays e ∙ ap Some (hopped_is r s c (relay_over relays s r e))
  where
    is : (a b : Relay) → Some a ≡ Some b → a ≡ b
    is a b h = cc

    found : (relays : List Relay) → relay_in relays s ≡ Some r → relay_in (map (machine.hopped s c) relays) s ≡ Some (machine.hopped s c r)
    found [] e = absurd (cc)
    found (x ∷ relays) e = step (found relays) (x.stripe == s) e
      where
        step : (relay_in relays s ≡ Some r → relay_in (map (machine.hopped s c) relays) s ≡ Some (machine.hopped s c r)) → (b : Bool) → cond b (Some x) (relay_in relays s) ≡ Some r
            → cond b (Some (machine.hopped s c x)) (relay_in (map (machine.hopped s c) relays) s) ≡ Some (machine.hopped s c r)
        step rest true q = ap (λ y. Some (machine.hopped s c y)) (is x r q)
        step rest false q = rest q

-- the first relay of a list that has one
abbrev pub first_of : List Relay → Relay
first_of relays = slice_index_or relays 0 no_relay

pub first_stands : (relays : List Relay) → length relays ≢ 0 → relay_in relays (first_of relays).stripe ≡ Some (first_of relays)
first_stands [] ne = absurd (ne refl)
first_stands (x ∷ relays) ne = rw (itself x.stripe) refl
  where
    itself : (a : ℕ) → (a == a) ≡ true
    itself a = grind (arith, nat_tests)

pub first_hopped : (relays : List Relay) (c : ℕ) → length relays ≢ 0 → first_of (map (machine.hopped (first_of relays).stripe c) relays) ≡ hopped (first_of relays) c
first_hopped [] c ne = absurd (ne refl)
first_hopped (x ∷ relays) c ne = hopped_is x x.stripe c refl

-- A PLACE ON ITS WAY

-- The place's slot is Lost and no slot of its stripe is Broken. The slots that are neither Void nor
-- sound pass the test, and no more pass it than there are parity columns.
pub record IsOpen (t : Table) (h : Holdings) (s c : ℕ) (test : ℕ → Bool) : Type 0 where
  pub stripe : s < t.stripes
  pub column : c < width t
  pub lost : is_lost (slot_at t s c) ≡ true
  pub none_broken : NoneBroken t.data_columns t.parity (stripe_of t h s)
  pub here : test c ≡ true
  pub few : count (width t) test ≤ t.parity
  pub passes : (k : ℕ) → k < width t → slot_at t s k ≢ Void → (Sound (stripe_of t h s) k → ⊥) → test k ≡ true

-- no slot beside the place is Live and may be missing
abbrev pub NoneHidden : Table → ℕ → ℕ → (ℕ → Bool) → Type 0
NoneHidden t s c test = (k : ℕ) → k < width t → test k ≡ true → k ≢ c → is_live (slot_at t s k) ≡ false

-- no slot that a relay has yet to go over may be missing
abbrev pub IsClear : Table → Relay → (ℕ → Bool) → Type 0
IsClear t r test = (k : ℕ) → k < width t → test k ≡ true → is_ahead t r k ≡ true → ⊥

-- calls that are enough where the stripe has no relay and one may begin
abbrev pub Enough : Table → ℕ → ℕ → (ℕ → Bool) → ℕ → Type 0
Enough t s c test n = (NoneHidden t s c test × (t.data_columns + 2 ≤ n)) ⊎ (t.data_columns + t.data_columns + 3 ≤ n)

-- calls that are enough
pub data Left (t : Table) (s c : ℕ) (test : ℕ → Bool) (n : ℕ) : Type 0 where
  Own : (r : Relay) → relay_at t s ≡ Some r → r.target ≡ c → (IsClear t r test × (ahead t r + 1 ≤ n)) ⊎ (ahead t r + t.data_columns + 2 ≤ n) → Left t s c test n
  Other : (r : Relay) (m : ℕ) → relay_at t s ≡ Some r → r.target ≢ c → Enough t s c test m → ahead t r + 1 + m ≤ n → Left t s c test n
  Free : relay_at t s ≡ None → length t.relays ≢ 16 → Enough t s c test n → Left t s c test n
  Crowded : (m : ℕ) → relay_at t s ≡ None → length t.relays ≡ 16 → Enough t s c test m → ahead t (first_of t.relays) + 1 + m ≤ n → Left t s c test n

pub none_left : (t : Table) (s c : ℕ) (test : ℕ → Bool) → Left t s c test 0 → ⊥
none_left t s c test (Own r here own (inl x)) = (let l : ahead t r + 1 ≤ 0 = x.1 in omega arith)
none_left t s c test (Own r here own (inr x)) = omega arith
none_left t s c test (Other r m here other enough l) = omega arith
none_left t s c test (Free none few (inl x)) = (let l : t.data_columns + 2 ≤ 0 = x.1 in omega arith)
none_left t s c test (Free none few (inr x)) = omega arith
none_left t s c test (Crowded m none full enough l) = omega arith

-- A SLOT THAT PASSES THE TEST

module _ (t : Table) (h : Holdings) (s c : ℕ) (test : ℕ → Bool) (x : IsOpen t h s c test) (two : t.parity ≤ 2) where
  pub lost_passes : (k : ℕ) → k < width t → is_lost (slot_at t s k) ≡ true → test k ≡ true
  lost_passes k lk l = x.passes k lk (λ v. apart (sym (ap is_lost v) ∙ l)) (λ y. apart (sym (ap is_lost y.1.live) ∙ l))
    where
      apart : false ≡ true → ⊥
      apart e = cc

  few : count (width t) test ≤ 2
  few = let f : count (width t) test ≤ t.parity = x.few in omega arith

  -- beside the place at most one slot passes
  pub one_beside : (a k : ℕ) → a < width t → k < width t → test a ≡ true → test k ≡ true → a ≢ c → k ≢ c → k ≡ a
  one_beside a k la lk ta tk na nk = third_is (width t) test c a k few x.column la lk x.here ta tk na nk

  -- no relay is stuck there
  no_broken : first t s is_broken ≡ None
  no_broken = none_least (width t) (λ k. is_broken (slot_at t s k)) (λ k lk. unbroken (slot_at t s k) (λ d. x.none_broken k d lk))
    where
      unbroken : (y : SlotState) → ((d : Digest) → y ≢ Broken d) → is_broken y ≡ false
      unbroken Void h = refl
      unbroken (Live d) h = refl
      unbroken (Lost d) h = refl
      unbroken (Broken d) h = absurd (h d refl)

  unsound_lost : (y : SlotState) → ((d : Digest) → y ≢ Broken d) → is_unsound y ≡ true → is_lost y ≡ true
  unsound_lost Void h u = absurd (cc)
  unsound_lost (Live d) h u = absurd (cc)
  unsound_lost (Lost d) h u = refl
  unsound_lost (Broken d) h u = absurd (h d refl)

  few_beside : count_beside t s c is_unsound < t.parity
  few_beside =
      let one : count (width t) test ≡ count (width t) (without test c) + 1 = count_without (width t) test c x.column x.here in
      let le : count (width t) (λ k. not (k == c) && is_unsound (slot_at t s k)) ≤ count (width t) (without test c) =
      count-le (width t) (λ k. not (k == c) && is_unsound (slot_at t s k)) (without test c) (λ k lk e. passes_without test c k
      (lost_passes k lk (unsound_lost (slot_at t s k) (λ d. x.none_broken k d lk) (beside k (is_unsound (slot_at t s k)) e).1)) (beside k (is_unsound (slot_at t s k)) e).0) in
      let f : count (width t) test ≤ t.parity = x.few in omega arith
    where
      beside : (k : ℕ) (b : Bool) → not (k == c) && b ≡ true → (k ≢ c) × (b ≡ true)
      beside k true e = (grind (arith, nat_tests), refl)
      beside k false e = absurd (grind (arith, nat_tests))

  pub not_stuck : stuck_by t s c ≡ None
  not_stuck = rw no_broken (less t.parity (count_beside t s c is_unsound) (first_beside t s c is_unsound) few_beside)
    where
      less : (p n : ℕ) (o : Option ℕ) → n < p → (if (p == 2) && false then None else (if nat_le p n then o else None)) ≡ None
      less p n o l = grind (arith, nat_tests)
