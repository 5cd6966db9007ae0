-- The steps of a group that begin, move and end a relay, as relations over plain data. They are
-- said of archives that tell what they hold.
use Rattle.std.specs.Prelude.{◌≡◌, ◌≢◌, ◌⊎◌, ℕ, ◌≤◌, List, [], ◌∷◌, ◌++◌, Option, Some, None}
use Rattle.std.specs.Prelude.{IsSomeAnd, IsTrue, false, length, slice_index_or}
use Rattle.pot_bytes.specs.declared.digest.Digest.{Digest}
use Rattle.pot_bytes.specs.Rack.{log_bound}
use Rattle.pot_machine.specs.declared.slot.SlotState.TheVariants.{Broken}
use Rattle.pot_machine.specs.declared.relay.Relay.{Relay}
use Rattle.pot_machine.specs.declared.entry.Entry.{Entry}
use Rattle.pot_machine.specs.declared.entry.Entry.TheVariants as entry
use Rattle.pot_machine.specs.Slot.{is_live, is_unsound}
use Rattle.pot_machine.specs.Column.{names}
use Rattle.pot_machine.specs.Table.{Table, slot_at, column_at, serving_at, relay_at, next_column}
use Rattle.pot_machine.specs.Machine.{Legal, after, stuck_by}
use Rattle.pot_bytes.specs.Digests.{digest_of}
use Rattle.pot_steps.specs.Stripe.{Sound}
use Rattle.pot_steps.specs.Flight.{partial_of}
use Rattle.pot_steps.specs.Holdings.{Holdings, stripe_of}
use Rattle.pot_steps.specs.Flights.{Acts, flight_in, flights_after}
use Rattle.pot_steps.specs.GroupStep.{GroupState, LosesBlocks, FullStep, Settled}

-- The slot of an archive that an entry writes, or in which a write that failed may leave something,
-- and all slots of an archive that it brings.
abbrev pub EntryWrites : Table → Entry → ℕ → ℕ → Type 0
EntryWrites t (entry.Mended job s c) number slot = (number ≡ serving_at t s c) × (slot ≡ s)
EntryWrites t (entry.Moved job s c copied) number slot =
    IsTrue copied × IsSomeAnd (column_at t c).moving (λ m. number ≡ m.to) × (slot ≡ s)
EntryWrites t (entry.Fault job s c) number slot = IsTrue (names (column_at t c) number) × (slot ≡ s)
EntryWrites t (entry.MoveBegin job c to) number slot = number ≡ to
EntryWrites t (entry.Swapped job c to) number slot = number ≡ to
EntryWrites t _ number slot = ⊥

-- One entry is logged, with the block that is handed in with it. Blocks may be lost before it does
-- something and after. Elsewhere than where it writes blocks are lost, and nothing else.
pub record Logged (e : Entry) (given : List ℕ) (old new : GroupState) : Type 0 where
  pub legal : Legal old.table e
  pub log : new.log ≡ old.log ++ e ∷ []
  pub room : length new.log ≤ log_bound
  pub table : new.table ≡ after old.table e
  pub flights : new.flights ≡ flights_after old.table e given old.flights
  pub before : Holdings
  pub now : Holdings
  pub lost : LosesBlocks old.held before
  pub acts : Acts old.table old.flights given e before now
  pub loses : LosesBlocks now new.held
  pub elsewhere : (number slot : ℕ) (b : List ℕ) → (EntryWrites old.table e number slot → ⊥)
      → new.held number slot ≡ Some b → old.held number slot ≡ Some b

-- one entry keeps every law
abbrev pub LoggedKeeps : Type 0
LoggedKeeps =
    (e : Entry) (given : List ℕ) (old new : GroupState) → Logged e given old new → Settled old
    → Settled new

-- no archive heard a sum
abbrev pub HeardStays : GroupState → GroupState → Type 0
HeardStays old new = (number : ℕ) → new.heard number ≡ old.heard number

-- the archive that serves the slot heard this sum, and no other archive heard one
pub record ArchiveHears (s c : ℕ) (sum : List ℕ) (old new : GroupState) : Type 0 where
  pub here : new.heard (serving_at old.table s c)
      ≡ old.heard (serving_at old.table s c) ++ (s, sum) ∷ []
  pub others : (number : ℕ) → number ≢ serving_at old.table s c
      → new.heard number ≡ old.heard number

-- nothing changes
pub record Unchanged (old new : GroupState) : Type 0 where
  pub table : new.table ≡ old.table
  pub log : new.log ≡ old.log
  pub flights : new.flights ≡ old.flights
  pub heard : HeardStays old new
  pub held : (number slot : ℕ) → new.held number slot ≡ old.held number slot

-- A BEGIN

pub data BeginAnswer : Type 0 where
  Begun : BeginAnswer
  NoRoom : BeginAnswer
  Whole : BeginAnswer
  Standing : (column : ℕ) → BeginAnswer
  TwoGone : (first second : ℕ) → BeginAnswer
  Crowded : BeginAnswer

abbrev pub BeginStep : ℕ → ℕ → ℕ → List ℕ → BeginAnswer → GroupState → GroupState → Type 0
BeginStep job s c blind Begun old new =
    Logged (entry.Begin job s c) blind old new × HeardStays old new
BeginStep job s c blind NoRoom old new = FullStep old new
BeginStep job s c blind Whole old new =
    Unchanged old new × (is_unsound (slot_at old.table s c) ≡ false)
BeginStep job s c blind (Standing column) old new =
    Unchanged old new × IsTrue (is_unsound (slot_at old.table s c))
    × IsSomeAnd (relay_at old.table s) (λ r. r.target ≡ column)
BeginStep job s c blind (TwoGone first second) old new =
    Logged (entry.Stuck job s c second) [] old new × HeardStays old new × (first ≡ c)
BeginStep job s c blind Crowded old new =
    Unchanged old new × IsTrue (is_unsound (slot_at old.table s c)) × (relay_at old.table s ≡ None)
    × (stuck_by old.table s c ≡ None) × (length old.table.relays ≡ 16)

-- AN ADVANCE

pub data AdvanceAnswer : Type 0 where
  Hopped : AdvanceAnswer
  Mended : AdvanceAnswer
  Ended : AdvanceAnswer
  Odd : (wanted found : Digest) → AdvanceAnswer
  Faulted : (column : ℕ) → AdvanceAnswer
  Idle : AdvanceAnswer
  LogFull : AdvanceAnswer

-- the stripe's relay goes over this column next, or has gone over all and writes its target
abbrev pub ComesTo : Table → ℕ → Option ℕ → Type 0
ComesTo t s next = IsSomeAnd (relay_at t s) (λ r. next_column t r ≡ next)

-- the sum of the stripe's flight
abbrev pub HearsSum : ℕ → ℕ → GroupState → GroupState → Type 0
HearsSum s c old new = IsSomeAnd (flight_in old.flights s) (λ f. ArchiveHears s c f.sum old new)

-- A fold that failed may have been heard. What a write that failed left in the target's slot, which
-- is not Live, is not said.
abbrev pub AdvanceFails : ℕ → ℕ → ℕ → GroupState → GroupState → Type 0
AdvanceFails job s column old new =
    Logged (entry.Fault job s column) [] old new
    × ((ComesTo old.table s (Some column) × (HeardStays old new ⊎ HearsSum s column old new))
    ⊎ (ComesTo old.table s None × IsSomeAnd (relay_at old.table s) (λ r. r.target ≡ column)
    × HeardStays old new))

abbrev pub AdvanceStep : ℕ → ℕ → AdvanceAnswer → GroupState → GroupState → Type 0
AdvanceStep job s Hopped old new =
    (c : ℕ) × (sum : List ℕ) × Logged (entry.Hop job s c) sum old new × HearsSum s c old new
AdvanceStep job s Mended old new =
    (c : ℕ) × Logged (entry.Mended job s c) [] old new × HeardStays old new
AdvanceStep job s Ended old new =
    (c : ℕ) × (other : ℕ) × Logged (entry.GaveUp job s c other) [] old new
    × (Sound (stripe_of old.table new.held s) other → ⊥)
    × ((IsTrue (is_live (slot_at old.table s other)) × HearsSum s other old new)
    ⊎ ((is_live (slot_at old.table s other) ≡ false) × HeardStays old new))
AdvanceStep job s (Odd wanted found) old new =
    (c : ℕ) × Logged (entry.Oddly job s c found) [] old new × HeardStays old new
    × (slot_at old.table s c ≡ Broken wanted)
    × IsSomeAnd (flight_in old.flights s) (λ f. found ≡ digest_of (partial_of f))
AdvanceStep job s (Faulted column) old new = AdvanceFails job s column old new
AdvanceStep job s Idle old new = Unchanged old new × (relay_at old.table s ≡ None)
AdvanceStep job s LogFull old new = FullStep old new

-- A MEND

pub data MendAnswer : Type 0 where
  Began : MendAnswer
  Extends : MendAnswer
  NoNeed : MendAnswer
  Stuck : (first second : ℕ) → MendAnswer
  MendOdd : (wanted found : Digest) → MendAnswer
  MendFaulted : (column : ℕ) → MendAnswer
  MendFull : MendAnswer

-- an advance over this stripe, asked for by a mend of that place
abbrev pub GoesBy : ℕ → ℕ → ℕ → ℕ → MendAnswer → GroupState → GroupState → Type 0
GoesBy job n s c Extends old new =
    AdvanceStep job n Hopped old new
    ⊎ (AdvanceStep job n Mended old new ⊎ (AdvanceStep job n Ended old new
    ⊎ ((wanted found : Digest) × AdvanceStep job n (Odd wanted found) old new
    × (IsSomeAnd (relay_at old.table n) (λ r. (n ≡ s) × (r.target ≡ c)) → ⊥))))
GoesBy job n s c (MendOdd wanted found) old new =
    AdvanceStep job n (Odd wanted found) old new
    × IsSomeAnd (relay_at old.table n) (λ r. (n ≡ s) × (r.target ≡ c))
GoesBy job n s c (MendFaulted column) old new = AdvanceStep job n (Faulted column) old new
GoesBy job n s c _ old new = ⊥

abbrev pub no_relay : Relay
no_relay = record { stripe = 0; target = 0; skip = None; last = None }

-- the relay that a mend of a place moves: the one of its stripe, and where none stands there and 16
-- stand, the first of all
abbrev pub MovesRelay : Table → ℕ → ℕ → ℕ → Type 0
MovesRelay t s c n =
    ((relay_at t s ≢ None) × (n ≡ s))
    ⊎ ((relay_at t s ≡ None) × (stuck_by t s c ≡ None) × (length t.relays ≡ 16)
    × (n ≡ (slice_index_or t.relays 0 no_relay).stripe))

abbrev pub MendStep : ℕ → ℕ → ℕ → List ℕ → MendAnswer → GroupState → GroupState → Type 0
MendStep job s c blind Began old new = BeginStep job s c blind Begun old new
MendStep job s c blind NoNeed old new = BeginStep job s c blind Whole old new
MendStep job s c blind (Stuck first second) old new =
    BeginStep job s c blind (TwoGone first second) old new
MendStep job s c blind MendFull old new = FullStep old new
MendStep job s c blind answer old new =
    IsTrue (is_unsound (slot_at old.table s c))
    × ((n : ℕ) × MovesRelay old.table s c n × GoesBy job n s c answer old new)

abbrev pub BeginStepKeeps : Type 0
BeginStepKeeps =
    (job s c : ℕ) (blind : List ℕ) (answer : BeginAnswer) (old new : GroupState)
    → BeginStep job s c blind answer old new → Settled old → Settled new

abbrev pub AdvanceStepKeeps : Type 0
AdvanceStepKeeps =
    (job s : ℕ) (answer : AdvanceAnswer) (old new : GroupState) → AdvanceStep job s answer old new
    → Settled old → Settled new

abbrev pub MendStepKeeps : Type 0
MendStepKeeps =
    (job s c : ℕ) (blind : List ℕ) (answer : MendAnswer) (old new : GroupState)
    → MendStep job s c blind answer old new → Settled old → Settled new
