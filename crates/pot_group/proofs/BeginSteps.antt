-- A begin as a step of a group, and why no relay begins where nothing else is in the way: 16 stand.
use Rattle.std.proofs.Common.{◌≡◌, ◌⊎◌, inl, inr, ℕ, ◌+◌, ◌<◌, ◌≤◌, ◌++◌, append-nil, List, [], ◌∷◌, Option, Some, None, true, false, Bool, IsTrue, not, ◌&&◌, nat_le, if◌then◌else◌, length, length-append, refl, sym, subst, arith}
use Rattle.std.specs.Prelude.{Ok, Err, Result, ◌==◌, is_some}
use Rattle.std.proofs.lemmas.Bool.Decides.{nat_tests}
use Rattle.pot_outside.specs.Archives.{Meaning}
use Rattle.pot_machine.specs.declared.slot.SlotState.{SlotState}
use Rattle.pot_machine.specs.declared.slot.SlotState.TheVariants.{Void, Live, Lost, Broken}
use Rattle.pot_machine.specs.declared.entry.Entry.{Entry}
use Rattle.pot_machine.specs.declared.entry.Entry.TheVariants.{Begin, Stuck}
use Rattle.pot_machine.specs.Slot.{is_unsound, is_lost, is_broken}
use Rattle.pot_machine.specs.Table.{Table, width, slot_at, relay_at, first, first_beside, count_beside}
use Rattle.pot_machine.specs.Rules.{IsTable}
use Rattle.pot_machine.specs.Machine.{Legal, after, stuck_by, MayBeRebuilt}
use Rattle.pot_machine.proofs.Searches.{least_none, none_counted, count_none, none_least}
use Rattle.pot_steps.proofs.Steps.{count-le}
use Rattle.pot_bytes.specs.Lists.{IsBlock}
use Rattle.pot_bytes.specs.Rack.{log_bound}
use Rattle.pot_steps.specs.Flights.{Acts, flights_after}
use Rattle.pot_steps.specs.GroupStep.{GroupState}
use Rattle.pot_steps.specs.RelaySteps.{Logged, BeginStep, Unchanged}
use Rattle.pot_group.specs.declared.relaying.BeginFault.{BeginFault}
use Rattle.pot_group.specs.declared.relaying.BeginFault.TheVariants as fault
use Rattle.pot_group.specs.Group.{GroupView, GroupParts, IsSettled, view_of, state_of}
use Rattle.pot_group.specs.Relaying.{begin_as, BeginMeans}

-- NOTHING ELSE IS IN THE WAY

either_none : (a b : Bool) (x y : Option ℕ) → (if a && is_some x then x else (if b then y else None)) ≡ None → ((a ≡ false) ⊎ (x ≡ None)) × ((b ≡ false) ⊎ (y ≡ None))
either_none true b (Some k) y e = absurd (cc)
either_none true true None y e = (inr refl, inr e)
either_none true false None y e = (inr refl, inl refl)
either_none false true x y e = (inl refl, inr e)
either_none false false x y e = (inl refl, inl refl)

rebuilt_one : (x : SlotState) (single : Type 0) → IsTrue (is_unsound x) → (is_broken x ≡ true → single) → IsTrue (is_lost x) ⊎ (IsTrue (is_broken x) × single)
rebuilt_one Void single u h = absurd (cc)
rebuilt_one (Live d) single u h = absurd (cc)
rebuilt_one (Lost d) single u h = inl refl
rebuilt_one (Broken d) single u h = inr (refl, h refl)

lost_unsound : (b : Bool) (x : SlotState) → (b && is_lost x) ≡ true → (b && is_unsound x) ≡ true
lost_unsound false x e = absurd (cc)
lost_unsound true Void e = absurd (cc)
lost_unsound true (Live d) e = absurd (cc)
lost_unsound true (Lost d) e = refl
lost_unsound true (Broken d) e = refl

sound_unbroken : (b : Bool) (x : SlotState) → (b && is_unsound x) ≡ false → (b && is_broken x) ≡ false
sound_unbroken false x e = refl
sound_unbroken true Void e = refl
sound_unbroken true (Live d) e = refl
sound_unbroken true (Lost d) e = absurd (cc)
sound_unbroken true (Broken d) e = absurd (cc)

unbroken_beside : (b : Bool) (x : SlotState) → is_broken x ≡ false → (b && is_broken x) ≡ false
unbroken_beside false x e = refl
unbroken_beside true x e = e

module _ (t : Table) (s c : ℕ) (is : IsTable t) (within : s < t.stripes) (column : c < width t) (unsound : IsTrue (is_unsound (slot_at t s c))) (idle : relay_at t s ≡ None) (unstuck : stuck_by t s c ≡ None) where
  ways : (((t.parity == 2) ≡ false) ⊎ (first t s is_broken ≡ None)) × ((nat_le t.parity (count_beside t s c is_unsound) ≡ false) ⊎ (first_beside t s c is_unsound ≡ None))
  ways = either_none (t.parity == 2) (nat_le t.parity (count_beside t s c is_unsound)) (first t s is_broken) (first_beside t s c is_unsound) unstuck

  few_of : (p n : ℕ) → nat_le p n ≡ false → n < p
  few_of p n e = grind (arith, nat_tests)

  few : ((nat_le t.parity (count_beside t s c is_unsound) ≡ false) ⊎ (first_beside t s c is_unsound ≡ None)) → count_beside t s c is_unsound < t.parity
  few (inl e) = few_of t.parity (count_beside t s c is_unsound) e
  few (inr e) =
      let z : count_beside t s c is_unsound ≡ 0 = count_none (width t) (λ k. not (k == c) && is_unsound (slot_at t s k)) (least_none (width t) (λ k. not (k == c) && is_unsound (slot_at t s k)) e) in
      let one : 1 ≤ t.parity = is.size.parity.0 in
      omega arith

  lost : count_beside t s c is_lost < t.parity
  lost =
      let l : count_beside t s c is_lost ≤ count_beside t s c is_unsound = count-le (width t) (λ k. not (k == c) && is_lost (slot_at t s k)) (λ k. not (k == c) && is_unsound (slot_at t s k)) (λ k lk e. lost_unsound (not (k == c)) (slot_at t s k) e) in
      let f : count_beside t s c is_unsound < t.parity = few ways.1 in
      omega arith

  single_of : (p : ℕ) → (p == 2) ≡ false → 1 ≤ p → p ≤ 2 → p ≡ 1
  single_of p e a b = grind (arith, nat_tests)

  single : (t.parity == 2) ≡ false → t.parity ≡ 1
  single e = single_of t.parity e is.size.parity.0 is.size.parity.1

  -- no other slot is Broken
  unbroken : ((t.parity == 2) ≡ false) ⊎ (first t s is_broken ≡ None) → first_beside t s c is_broken ≡ None
  unbroken (inr e) = none_least (width t) (λ k. not (k == c) && is_broken (slot_at t s k)) (λ k lk. unbroken_beside (not (k == c)) (slot_at t s k) (least_none (width t) (λ j. is_broken (slot_at t s j)) e k lk))
  unbroken (inl e) = none_least (width t) (λ k. not (k == c) && is_broken (slot_at t s k)) (λ k lk. sound_unbroken (not (k == c)) (slot_at t s k) (least_none (width t) (λ j. not (j == c) && is_unsound (slot_at t s j)) sound k lk))
    where
      sound : first_beside t s c is_unsound ≡ None
      sound = none_counted (width t) (λ k. not (k == c) && is_unsound (slot_at t s k)) (let f : count_beside t s c is_unsound < t.parity = few ways.1 in let p : t.parity ≡ 1 = single e in omega arith)

  rebuilt : ((t.parity == 2) ≡ false) ⊎ (first t s is_broken ≡ None) → MayBeRebuilt t s c
  rebuilt (inl e) = rebuilt_one (slot_at t s c) (t.parity ≡ 1) unsound (λ b. single e)
  rebuilt (inr e) = rebuilt_one (slot_at t s c) (t.parity ≡ 1) unsound (λ b. absurd (no (least_none (width t) (λ j. is_broken (slot_at t s j)) e c column) b))
    where
      no : {b : Bool} → b ≡ false → b ≡ true → ⊥
      no p q = cc

  -- a relay can begin where fewer than 16 stand
  pub begins : (job : ℕ) → length t.relays < 16 → Legal t (Begin job s c)
  begins job room = ((within, column), rebuilt ways.0, idle, unbroken ways.0, lost, room)

  pub crowded : (job : ℕ) → (Legal t (Begin job s c) → ⊥) → length t.relays ≡ 16
  crowded job illegal = full (length t.relays) is.size.relays (λ room. illegal (begins job room))
    where
      full : (n : ℕ) → n ≤ 16 → (n < 16 → ⊥) → n ≡ 16
      full n l h = grind arith

-- THE STEP

pub logged_in : (told : Type 0) (g : GroupView) → IsSettled told g → length g.log < log_bound → (e : Entry) (given : List ℕ) → Legal g.table e → Acts g.table g.flights given e g.shelves.held g.shelves.held
    → Logged e given (state_of g) (state_of (record g { table = after g.table e; log = g.log ++ e ∷ []; flights = flights_after g.table e given g.flights }))
logged_in told g settled room e given legal acts = record {
  legal = legal;
  log = refl;
  room = (let l : length (g.log ++ e ∷ []) ≡ length g.log + 1 = length-append g.log (e ∷ []) in omega (arith, room));
  table = refl;
  flights = refl;
  before = g.shelves.held;
  now = g.shelves.held;
  lost = (λ n m b e. e);
  acts = acts;
  loses = (λ n m b e. e);
  elsewhere = (λ n m b ne e. e);
}

module _ {A : Type 0} (told : Type 0) (meaning : A → Meaning) (old : GroupParts A) (job s c : ℕ) (blind : List ℕ)
    (settled : IsSettled told (view_of meaning old)) (block : IsBlock blind) (within : s < old.table.stripes) (column : c < width old.table) where
  abbrev state : GroupParts A → GroupState
  state g = state_of (view_of meaning g)

  same : (new : GroupParts A) → new ≡ old → Unchanged (state old) (state new)
  same new e = subst (λ (w : GroupParts A). Unchanged (state old) (state w)) (sym e) (record { table = refl; log = refl; flights = refl; heard = λ n. refl; held = λ n m. refl })

  pub begin_step : (r : Result (Unit {0}) BeginFault) (new : GroupParts A) → BeginMeans job s c blind r old new → BeginStep job s c blind (begin_as r) (state old) (state new)
  begin_step (Ok u) new m = subst (λ (w : GroupParts A). BeginStep job s c blind (begin_as (Ok u)) (state old) (state w)) (sym m.2)
      (logged_in told (view_of meaning old) settled m.0 (Begin job s c) blind m.1 (block, λ n k b ln lk l e. e), λ n. refl)
  begin_step (Err fault.LogFull) new m = subst (λ (w : GroupParts A). BeginStep job s c blind (begin_as (Err fault.LogFull)) (state old) (state w)) (sym m.0)
      (record {
        full = m.1;
        logs = record { log = sym (append-nil old.log); room = (let f : length old.log ≡ log_bound = m.1 in omega arith); flights = refl; heard = λ n. refl };
        table = refl;
        held = λ n k. refl;
      })
  begin_step (Err fault.Whole) new m = (same new m.1, m.2)
  begin_step (Err (fault.Standing k)) new m = (same new m.1, m.2, m.3)
  begin_step (Err (fault.TwoGone one other)) new m = subst (λ (w : GroupParts A). BeginStep job s c blind (begin_as (Err (fault.TwoGone one other))) (state old) (state w)) (sym m.3)
      (logged_in told (view_of meaning old) settled m.0 (Stuck job s c other) [] m.2 (λ n k b ln lk l e. e), (λ n. refl), m.1)
  begin_step (Err fault.Crowded) new m =
      (same new m.1, m.2, m.3, m.4, crowded old.table s c settled.table within column m.2 m.3 m.4 job m.5)
