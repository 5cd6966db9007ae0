-- What a relay does to a group: its beginning, its hops and its ends.
use Rattle.std.specs.Prelude.{◌≡◌, ◌≢◌, ◌⊎◌, ℕ, ◌<◌, ◌++◌, ◌↔◌, List, [], ◌∷◌, Option, Some, None}
use Rattle.std.specs.Prelude.{IsSomeAnd, IsTrue, Bool, false, Result, Ok, Err, length, ◌==◌}
use Rattle.std.specs.Prelude.{if◌then◌else◌}
use Rattle.pot_bytes.specs.Rack.{log_bound}
use Rattle.pot_machine.specs.declared.entry.Entry.{Entry}
use Rattle.pot_machine.specs.declared.entry.Entry.TheVariants as entry
use Rattle.pot_machine.specs.Slot.{is_live, is_unsound, digest_in}
use Rattle.pot_machine.specs.Table.{Table, slot_at, relay_at, next_column, serving_at}
use Rattle.pot_machine.specs.Machine.{Legal, after, stuck_by}
use Rattle.pot_steps.specs.Flights.{flight_in, flights_after}
use Rattle.pot_steps.specs.RelaySteps as step
use Rattle.pot_steps.specs.Mending.{LosesNothing}
use Rattle.pot_steps.specs.declared.flight.Flight.{Flight}
use Rattle.pot_bytes.specs.Digests.{digest_of}
use Rattle.pot_steps.specs.Flight.{partial_of, unfolded, weight_in}
use Rattle.pot_group.specs.declared.relaying.Advanced.{Advanced}
use Rattle.pot_group.specs.declared.relaying.Advanced.TheVariants as advanced
use Rattle.pot_outside.specs.declared.faults.Failed.{Failed}
use Rattle.pot_shelves.specs.Shelves.{Keeps, LosesByCount, NoneLost, WritesAt, WritesInto}
use Rattle.pot_group.specs.declared.relaying.AdvanceFault.{AdvanceFault}
use Rattle.pot_group.specs.declared.relaying.AdvanceFault.TheVariants as failed
use Rattle.pot_group.specs.declared.relaying.BeginFault.{BeginFault}
use Rattle.pot_group.specs.declared.relaying.BeginFault.TheVariants as fault
use Rattle.pot_group.specs.declared.relaying.Mend.{Mend}
use Rattle.pot_group.specs.declared.relaying.Mend.TheVariants as mend
use Rattle.pot_group.specs.Heard.{blinds_after}
use Rattle.pot_group.specs.Group.{GroupParts, GroupView, FailedAt, noted, state_of}

-- an entry is logged, and does in the table, to the flights and to the blinds what it says
abbrev pub acted : {A : Type 0} → GroupParts A → Entry → List ℕ → GroupParts A
acted g e given =
    record g {
      table = after g.table e;
      log = g.log
          ++ e ∷ [];
      flights = flights_after g.table e given g.flights;
      blinds = blinds_after e given g.blinds;
    }

-- the answer of a begin as the steps of a group name it
abbrev pub begin_as : Result (Unit {0}) BeginFault → step.BeginAnswer
begin_as (Ok u) = step.Begun
begin_as (Err fault.LogFull) = step.NoRoom
begin_as (Err fault.Whole) = step.Whole
begin_as (Err (fault.Standing column)) = step.Standing column
begin_as (Err (fault.TwoGone first second)) = step.TwoGone first second
begin_as (Err fault.Crowded) = step.Crowded

-- What a begin does to a group, whether or not archives tell.
abbrev pub BeginMeans : {A : Type 0} → ℕ → ℕ → ℕ → List ℕ → Result (Unit {0}) BeginFault
    → GroupParts A → GroupParts A → Type 0
BeginMeans job s c blind (Ok u) old new =
    (length old.log < log_bound) × Legal old.table (entry.Begin job s c)
    × (new ≡ acted old (entry.Begin job s c) blind)
BeginMeans job s c blind (Err fault.LogFull) old new = (new ≡ old) × (length old.log ≡ log_bound)
BeginMeans job s c blind (Err fault.Whole) old new =
    (length old.log < log_bound) × (new ≡ old) × (is_unsound (slot_at old.table s c) ≡ false)
BeginMeans job s c blind (Err (fault.Standing column)) old new =
    (length old.log < log_bound) × (new ≡ old) × IsTrue (is_unsound (slot_at old.table s c))
    × IsSomeAnd (relay_at old.table s) (λ r. r.target ≡ column)
BeginMeans job s c blind (Err (fault.TwoGone first second)) old new =
    (length old.log < log_bound) × (first ≡ c) × Legal old.table (entry.Stuck job s c second)
    × (new ≡ noted old (entry.Stuck job s c second))
BeginMeans job s c blind (Err fault.Crowded) old new =
    (length old.log < log_bound) × (new ≡ old) × IsTrue (is_unsound (slot_at old.table s c))
    × (relay_at old.table s ≡ None) × (stuck_by old.table s c ≡ None)
    × (Legal old.table (entry.Begin job s c) → ⊥)

-- a flight over this stripe comes to a column and has this sum
abbrev pub flown_to : ℕ → Option ℕ → List ℕ → Flight → Flight
flown_to s last sum f =
    record {
      relay = record f.relay { last = if f.relay.stripe == s then last else f.relay.last };
      blind = f.blind;
      sum = if f.relay.stripe == s then sum else f.sum;
    }

-- What is done with a fold over a flight's next column.
abbrev pub HopsOver : {A : Type 0} → ℕ → List ℕ → Advanced → Flight → GroupParts A → GroupParts A
    → Type 0
HopsOver job sum advanced.Hopped f old new =
    IsSomeAnd (next_column old.table f.relay) (λ c.
    (digest_in (slot_at old.table f.relay.stripe c)
    ≡ Some (digest_of (unfolded (weight_in old.table.data_columns f.relay c) f.sum sum)))
    × (new ≡ acted old (entry.Hop job f.relay.stripe c) sum))
HopsOver job sum advanced.Ended f old new =
    IsSomeAnd (next_column old.table f.relay) (λ c.
    (digest_in (slot_at old.table f.relay.stripe c)
    ≢ Some (digest_of (unfolded (weight_in old.table.data_columns f.relay c) f.sum sum)))
    × (new ≡ acted old (entry.GaveUp job f.relay.stripe f.relay.target c) []))
HopsOver job sum advanced.Mended f old new = ⊥

-- The log grows by one entry, and the table and the flights by what it says.
pub record LogsEntry (e : Entry) (given : List ℕ) (old new : GroupView) : Type 0 where
  pub number : new.number ≡ old.number
  pub first : new.first ≡ old.first
  pub legal : Legal old.table e
  pub table : new.table ≡ after old.table e
  pub log : new.log ≡ old.log ++ e ∷ []
  pub flights : new.flights ≡ flights_after old.table e given old.flights
  pub blinds : new.blinds ≡ blinds_after e given old.blinds
  pub tried : new.tried ≡ old.tried

-- the answer of an advance as the steps of a group name it
abbrev pub advance_as : Result Advanced AdvanceFault → step.AdvanceAnswer
advance_as (Ok advanced.Hopped) = step.Hopped
advance_as (Ok advanced.Mended) = step.Mended
advance_as (Ok advanced.Ended) = step.Ended
advance_as (Err failed.LogFull) = step.LogFull
advance_as (Err failed.Idle) = step.Idle
advance_as (Err (failed.Faulted column)) = step.Faulted column
advance_as (Err (failed.Odd wanted found)) = step.Odd wanted found

-- A relay that went over all its columns, and had a block of the target's digest.
abbrev pub EndsRelay : Type 0 → ℕ → List ℕ → Flight → Result Advanced AdvanceFault → GroupView
    → GroupView → Type 0
EndsRelay told job block f (Ok advanced.Mended) old new =
    LogsEntry (entry.Mended job f.relay.stripe f.relay.target) [] old new
    × WritesAt told (serving_at old.table f.relay.stripe f.relay.target) f.relay.stripe block
    (Ok (tt)) old.shelves new.shelves
EndsRelay told job block f (Ok advanced.Hopped) old new = ⊥
EndsRelay told job block f (Ok advanced.Ended) old new = ⊥
EndsRelay told job block f (Err (failed.Faulted column)) old new =
    (column ≡ f.relay.target) × LogsEntry (entry.Fault job f.relay.stripe column) [] old new
    × ((e : Failed)
    × WritesAt told (serving_at old.table f.relay.stripe f.relay.target) f.relay.stripe block
    (Err e) old.shelves new.shelves)
EndsRelay told job block f (Err failed.LogFull) old new = ⊥
EndsRelay told job block f (Err failed.Idle) old new = ⊥
EndsRelay told job block f (Err (failed.Odd wanted found)) old new = ⊥

-- AN ADVANCE, whether or not archives tell

-- the stripe's relay comes to this column next
abbrev pub OnWay : GroupView → ℕ → (Flight → ℕ → Type 0) → Type 0
OnWay g s P = IsSomeAnd (flight_in g.flights s) (λ f. IsSomeAnd (next_column g.table f.relay) (P f))

-- the stripe's relay went over all its columns
abbrev pub AtEnd : GroupView → ℕ → (Flight → Type 0) → Type 0
AtEnd g s P = IsSomeAnd (flight_in g.flights s) (λ f. (next_column g.table f.relay ≡ None) × P f)

-- The step of a stripe's relay. Hopped: what was added to the sum is a block of the digest of the
-- next column's slot. Faulted: that column's archive failed, or the target's where no column is
-- left.
abbrev pub Moves : ℕ → ℕ → Result Advanced AdvanceFault → GroupView → GroupView → Type 0
Moves job s (Ok advanced.Hopped) old new =
    OnWay old s (λ f c. (sum : List ℕ) × IsTrue (is_live (slot_at old.table s c))
    × (digest_in (slot_at old.table s c)
    ≡ Some (digest_of (unfolded (weight_in old.table.data_columns f.relay c) f.sum sum)))
    × LogsEntry (entry.Hop job s c) sum old new)
Moves job s (Ok advanced.Ended) old new =
    OnWay old s (λ f c. LogsEntry (entry.GaveUp job s f.relay.target c) [] old new)
Moves job s (Ok advanced.Mended) old new =
    AtEnd old s
    (λ f.
    (digest_in (slot_at old.table s f.relay.target) ≡ Some (digest_of (partial_of f)))
    × LogsEntry (entry.Mended job s f.relay.target) [] old new)
Moves job s (Err (failed.Odd wanted found)) old new =
    AtEnd old s
    (λ f.
    (digest_in (slot_at old.table s f.relay.target) ≡ Some wanted)
    × (found ≡ digest_of (partial_of f)) × (wanted ≢ found)
    × LogsEntry (entry.Oddly job s f.relay.target found) [] old new)
Moves job s (Err (failed.Faulted column)) old new =
    FailedAt old new s column × LogsEntry (entry.Fault job s column) [] old new
    × (OnWay old s (λ f c. (c ≡ column) × IsTrue (is_live (slot_at old.table s c)))
    ⊎ AtEnd old s (λ f. f.relay.target ≡ column))
Moves job s (Err failed.LogFull) old new = ⊥
Moves job s (Err failed.Idle) old new = ⊥

-- What an advance writes, said of archives that tell. Mended: the partial, into the target's slot.
-- Faulted: nothing on the way, and behind the last column what a failed write of the partial may
-- leave in that slot. Else nothing. Blocks may be lost besides.
abbrev pub AdvanceWrites : ℕ → Result Advanced AdvanceFault → GroupView → GroupView → Type 0
AdvanceWrites s (Ok advanced.Mended) old new =
    AtEnd old s
    (λ f.
    WritesInto (serving_at old.table s f.relay.target) s (partial_of f) (Ok (tt))
    old.shelves new.shelves)
AdvanceWrites s (Err (failed.Faulted column)) old new =
    OnWay old s (λ f c. LosesByCount old.shelves.held old.shelves new.shelves)
    ⊎ AtEnd old s
    (λ f.
    (e : Failed)
    × WritesInto (serving_at old.table s f.relay.target) s (partial_of f) (Err e)
    old.shelves new.shelves)
AdvanceWrites s answer old new = LosesByCount old.shelves.held old.shelves new.shelves

-- A step of the stripe's relay: what it does, that the archives stay with their marks, and, where
-- they tell, the step of a group, that no block is lost where no count of losses rose, and what was
-- written.
pub record Advances (told : Type 0) (job s : ℕ) (result : Result Advanced AdvanceFault)
    (old new : GroupView) : Type 0 where
  pub moves : Moves job s result old new
  pub keeps : Keeps old.shelves new.shelves
  pub steps : told → step.AdvanceStep job s (advance_as result) (state_of old) (state_of new)
  pub lossless : told → NoneLost old.shelves new.shelves
      → LosesNothing (state_of old) (state_of new)
  pub writes : told → AdvanceWrites s result old new

-- A MEND

-- the answer of a mend as the steps of a group name it
abbrev pub mend_as : Mend → step.MendAnswer
mend_as mend.Whole = step.NoNeed
mend_as mend.Began = step.Began
mend_as mend.Extends = step.Extends
mend_as mend.Mended = step.Extends
mend_as mend.Passed = step.Extends
mend_as (mend.TwoGone first second) = step.Stuck first second
mend_as (mend.Odd wanted found) = step.MendOdd wanted found
mend_as (mend.Faulted column) = step.MendFaulted column
mend_as mend.LogFull = step.MendFull

-- the answer of a mend that makes an advance, of the slot's own relay or of another
abbrev pub answered : Bool → Result Advanced AdvanceFault → Mend
answered own (Ok advanced.Hopped) = mend.Extends
answered own (Ok advanced.Ended) = mend.Extends
answered own (Ok advanced.Mended) = mend.Mended
answered own (Err (failed.Odd wanted found)) = if own then mend.Odd wanted found else mend.Passed
answered own (Err (failed.Faulted column)) = mend.Faulted column
answered own (Err failed.LogFull) = mend.LogFull
answered own (Err failed.Idle) = mend.LogFull

-- the relay that stands in stripe `n` rebuilds the slot of stripe `s` and column `c`
abbrev pub Owns : Table → ℕ → ℕ → ℕ → Type 0
Owns t n s c = IsSomeAnd (relay_at t n) (λ r. (n ≡ s) × (r.target ≡ c))

-- A mend that makes an advance: of its stripe's relay, and where none stands there and 16 stand, of
-- the first of all.
pub record Drives (job s c : ℕ) (answer : Mend) (old new : GroupView) : Type 0 where
  pub unsound : IsTrue (is_unsound (slot_at old.table s c))
  pub stripe : ℕ
  pub own : Bool
  pub result : Result Advanced AdvanceFault
  pub which : step.MovesRelay old.table s c stripe
  pub owns : IsTrue own ↔ Owns old.table stripe s c
  pub is : answer ≡ answered own result
  pub moves : Moves job stripe result old new

-- What a mend writes, said of archives that tell: what the advance that it makes writes, and where
-- it makes none, nothing.
abbrev pub MendWrites : ℕ → ℕ → ℕ → Mend → GroupView → GroupView → Type 0
MendWrites job s c mend.Whole old new = LosesByCount old.shelves.held old.shelves new.shelves
MendWrites job s c mend.Began old new = LosesByCount old.shelves.held old.shelves new.shelves
MendWrites job s c (mend.TwoGone first second) old new =
    LosesByCount old.shelves.held old.shelves new.shelves
MendWrites job s c mend.LogFull old new = LosesByCount old.shelves.held old.shelves new.shelves
MendWrites job s c answer old new =
    (n : ℕ) × (result : Result Advanced AdvanceFault) × step.MovesRelay old.table s c n
    × Moves job n result old new × AdvanceWrites n result old new
