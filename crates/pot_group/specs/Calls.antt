-- What each call of a group does, a row a call: what it logged, what its answer says, and, of
-- archives that tell what they hold, its step.
use Rattle.std.specs.Prelude.{◌≡◌, ◌↔◌, ◌⊎◌, ◌≤◌, ◌<◌, ◌++◌, ℕ, Bool, true, false, IsTrue}
use Rattle.std.specs.Prelude.{IsSomeAnd, List, [], ◌∷◌, Option, None, Result, Ok, Err, Contains}
use Rattle.std.specs.Prelude.{length}
use Rattle.pot_bytes.specs.declared.rack.Place.{Place}
use Rattle.pot_bytes.specs.Rack.{log_bound}
use Rattle.pot_outside.specs.Accounts.{Account}
use Rattle.pot_outside.specs.Archives.{Meaning}
use Rattle.pot_outside.specs.declared.archive.Shelf.{Shelf}
use Rattle.pot_machine.specs.declared.entry.Entry.{Entry}
use Rattle.pot_machine.specs.declared.entry.Entry.TheVariants as entry
use Rattle.pot_machine.specs.Slot.{is_unsound}
use Rattle.pot_machine.specs.Table.{slot_at, column_at, relay_at}
use Rattle.pot_machine.specs.Machine.{Legal, TakesBlocks, stuck_by}
use Rattle.pot_steps.specs.GroupStep.{PutStep, LookStep, CountStep, Passed, skips, gone_entries}
use Rattle.pot_steps.specs.GroupStep.{put_entry, look_entries, unkept}
use Rattle.pot_steps.specs.Mending.{LosesNothing}
use Rattle.pot_steps.specs.MoveSteps as move
use Rattle.pot_steps.specs.RelaySteps.{AdvanceStep, BeginStep, MendStep}
use Rattle.pot_group.specs.declared.answers.Looked.{Looked}
use Rattle.pot_group.specs.declared.answers.Looked.TheVariants as looked
use Rattle.pot_group.specs.declared.answers.PutFault.{PutFault}
use Rattle.pot_group.specs.declared.answers.PutFault.TheVariants as fault
use Rattle.pot_group.specs.declared.counting.Counts.{Counts}
use Rattle.pot_group.specs.declared.telling.LogFull.{LogFull}
use Rattle.pot_group.specs.declared.relaying.Advanced.{Advanced}
use Rattle.pot_group.specs.declared.relaying.Advanced.TheVariants as advanced
use Rattle.pot_group.specs.declared.relaying.AdvanceFault.{AdvanceFault}
use Rattle.pot_group.specs.declared.relaying.AdvanceFault.TheVariants as failed
use Rattle.pot_group.specs.declared.relaying.BeginFault.{BeginFault}
use Rattle.pot_group.specs.declared.relaying.BeginFault.TheVariants as refused
use Rattle.pot_group.specs.declared.relaying.Mend.{Mend}
use Rattle.pot_group.specs.declared.relaying.Mend.TheVariants as mend
use Rattle.pot_group.specs.declared.copying.MoveStep.{MoveStep}
use Rattle.pot_group.specs.declared.copying.MoveStep.TheVariants as moved
use Rattle.pot_group.specs.declared.copying.MoveFault.{MoveFault}
use Rattle.pot_group.specs.declared.copying.MoveFault.TheVariants as stopped
use Rattle.pot_group.specs.declared.moving.ShelfRefused.{ShelfRefused}
use Rattle.pot_group.specs.Counting.{AreSlotsCounted}
use Rattle.pot_shelves.specs.Shelves.{Keeps, NoneLost, ShelvesStay}
use Rattle.pot_group.specs.Group.{GroupParts, GroupView, OnGroup, Logs, LogsOf, FailedAt, FitsGone}
use Rattle.pot_group.specs.Group.{FitsParity, FitsPassed, LookCause, looked_as, put_as, state_of}
use Rattle.pot_group.specs.Arrivals.{HasArrived}
use Rattle.pot_group.specs.Frames.{Tries}
use Rattle.pot_group.specs.Relaying.{LogsEntry, AdvanceWrites, AtEnd, Drives, MendWrites, Moves, OnWay}
use Rattle.pot_group.specs.Relaying.{advance_as, begin_as, mend_as}
use Rattle.pot_group.specs.Moving.{Comes, MovesOn, MoveWrites, OnMove, RefusesMove, RefusesSwap}
use Rattle.pot_group.specs.Moving.{live_in, move_as}

-- THE ROWS

-- A group keeps the blocks of puts that it kept, and some more of entries that its log gained.
abbrev pub GainsTries : GroupView → GroupView → Type 0
GainsTries old new =
    (more : Tries) × (new.tried ≡ old.tried ++ more)
    × ((x : ℕ × List ℕ) → Contains more x → (length old.log ≤ x.0) × (x.0 < length new.log))

-- The log of a group gained these entries. Its number, the table that it began with, the marks of
-- the archives that it had, those of the opening too, and what these meant at their taking stay.
pub record Grows (old new : GroupView) (entries : List Entry) : Type 0 where
  pub number : new.number ≡ old.number
  pub first : new.first ≡ old.first
  pub log : new.log ≡ old.log ++ entries
  pub tried : GainsTries old new
  pub faults_taken : (n : ℕ) → Contains old.shelves.numbers n
      → new.shelves.faults_taken n ≡ old.shelves.faults_taken n
  pub losses_taken : (n : ℕ) → Contains old.shelves.numbers n
      → new.shelves.losses_taken n ≡ old.shelves.losses_taken n
  pub faults_opened : (n : ℕ) → Contains old.shelves.numbers n
      → new.shelves.faults_opened n ≡ old.shelves.faults_opened n
  pub losses_opened : (n : ℕ) → Contains old.shelves.numbers n
      → new.shelves.losses_opened n ≡ old.shelves.losses_opened n
  pub taken : (n : ℕ) → Contains old.shelves.numbers n
      → new.shelves.taken n ≡ old.shelves.taken n

-- there are entries that the call logged, and its row says this of them
abbrev pub Made : (GroupView → GroupView → List Entry → Type 0) → GroupView → GroupView → Type 0
Made row old new = (entries : List Entry) × Grows old new entries × row old new entries

-- the same of a group with its archives, whose account says whether they tell
abbrev pub MakesCall : {A : Type 0} → Account A Meaning → (Type 0 → GroupView → GroupView → List Entry → Type 0)
    → GroupParts A → GroupParts A → Type 0
MakesCall account row old new = OnGroup account (λ told. Made (row told)) old new

-- A PUT

-- a Fault after the stripes passed, in the cursor's stripe, which takes blocks, at the cursor's
-- column or at a parity column
abbrev pub PutNothing : ℕ → List Passed → ℕ → ℕ → GroupView → GroupView → List Entry → Type 0
PutNothing job passed s column old new entries =
    (entries ≡ skips job passed ++ entry.Fault job s column ∷ []) × (s ≡ new.table.cursor.stripe)
    × TakesBlocks new.table new.table.cursor.stripe
    × ((column ≡ new.table.cursor.column) ⊎ (old.table.data_columns ≤ column))

-- the block was put, and this is the first parity column whose block was not
abbrev pub PutUnkept : ℕ → List Passed → ℕ → ℕ → List ℕ → GroupView → List Entry → Type 0
PutUnkept job passed s column block old entries =
    (c : ℕ) × (p : List ℕ) × (q : List ℕ) × (kept : Bool) × (kept2 : Bool)
    × (column ≡ unkept old.table.data_columns kept)
    × ((kept ≡ false) ⊎ ((old.table.parity ≡ 2) × (kept2 ≡ false)))
    × (entries ≡ skips job passed ++ put_entry old.table.parity job s c block p q kept kept2 ∷ [])
    × FitsParity old.table s p q

-- What the answer of a put says, and what it logged: for each stripe passed Skip, or Gone of its
-- parity slot and Skip, and then the entry of its answer. LogFull comes at once, or while the
-- cursor has a stripe that is still to be tried. Faulted names the cursor's column or a parity
-- column, whose archive failed.
abbrev pub PutTells : ℕ → List ℕ → Result Place PutFault → GroupView → GroupView → List Entry
    → Type 0
PutTells job block (Ok place) old new entries =
    (place.group ≡ old.number)
    × ((passed : List Passed) × (p : List ℕ) × (q : List ℕ)
    × (entries
    ≡ skips job passed
    ++ put_entry old.table.parity job place.stripe place.column block p q true true ∷ [])
    × FitsParity old.table place.stripe p q × FitsPassed old.table passed)
PutTells job block (Err fault.LogFull) old new entries =
    (passed : List Passed) × (s : ℕ) × (gone : Option ℕ)
    × (entries ≡ skips job passed ++ gone_entries job s gone)
    × FitsPassed old.table passed × FitsGone old.table s gone
    × (length new.log ≡ log_bound)
    × ((length old.log ≡ log_bound) ⊎ (new.table.cursor.stripe < new.table.stripes))
PutTells job block (Err fault.Full) old new entries =
    (passed : List Passed) × (entries ≡ skips job passed) × FitsPassed old.table passed
    × (new.table.cursor.stripe ≡ new.table.stripes)
PutTells job block (Err (fault.Faulted column)) old new entries =
    (passed : List Passed) × (s : ℕ)
    × (PutNothing job passed s column old new entries
    ⊎ PutUnkept job passed s column block old entries)
    × FailedAt old new s column × FitsPassed old.table passed

-- Which block of a put is kept, since no entry names its digest: its own, with the number of
-- entries before its Fault, where the write of the block itself failed, and none else.
abbrev pub PutTries : ℕ → List ℕ → Result Place PutFault → GroupView → GroupView → List Entry
    → Type 0
PutTries job block (Err (fault.Faulted column)) old new entries =
    ((column ≡ new.table.cursor.column)
    × ((before : List Entry) × (s : ℕ) × (entries ≡ before ++ entry.Fault job s column ∷ [])
    × (new.tried ≡ old.tried ++ (length (old.log ++ before), block) ∷ [])))
    ⊎ ((old.table.data_columns ≤ column) × (new.tried ≡ old.tried))
PutTries job block _ old new entries = new.tried ≡ old.tried

pub record PutCall (told : Type 0) (job : ℕ) (block : List ℕ) (result : Result Place PutFault)
    (old new : GroupView) (entries : List Entry) : Type 0 where
  pub logs : LogsOf entries old new
  pub tries : PutTries job block result old new entries
  pub tells : PutTells job block result old new entries
  pub full : length old.log ≡ log_bound → (result ≡ Err fault.LogFull) × (new ≡ old)
  pub keeps : Keeps old.shelves new.shelves
  pub step : told → PutStep job block (put_as result) (state_of old) (state_of new)

-- A LOOK

pub record LookCall (told : Type 0) (job : ℕ) (place : Place) (into : List ℕ) (result : Looked)
    (old new : GroupView) (entries : List Entry) : Type 0 where
  pub logs : Logs entries old new
  pub entries_are : entries ≡ look_entries job place.stripe place.column (looked_as result into)
  pub full : (result ≡ looked.LogFull) ↔ (length old.log ≡ log_bound)
  pub cause : LookCause result old new place.stripe place.column into
  pub stays : ShelvesStay told old.shelves new.shelves
  pub step : told
      → LookStep job place.stripe place.column (looked_as result into) (state_of old) (state_of new)

-- A COUNT

abbrev pub CountCall : Type 0 → ℕ → Result Counts LogFull → GroupView → GroupView → List Entry
    → Type 0
CountCall told job (Ok counts) old new entries =
    (entries ≡ entry.Counted job ∷ []) × AreSlotsCounted old.table counts × (new.shelves ≡ old.shelves)
    × (told → CountStep job (state_of old) (state_of new)) × Logs entries old new
    × (length old.log < log_bound)
CountCall told job (Err e) old new entries =
    (entries ≡ []) × (new ≡ old) × (length old.log ≡ log_bound)

-- A RELAY BEGINS

-- What the answer of a begin says, and the one entry that it logged, if it did. Nothing changes but
-- by that.
abbrev pub BeginTells : ℕ → ℕ → ℕ → List ℕ → Result (Unit {0}) BeginFault → GroupView → GroupView
    → List Entry → Type 0
BeginTells job s c blind (Ok u) old new entries =
    (entries ≡ entry.Begin job s c ∷ []) × (length old.log < log_bound)
    × LogsEntry (entry.Begin job s c) blind old new × (new.shelves ≡ old.shelves)
BeginTells job s c blind (Err refused.LogFull) old new entries =
    (entries ≡ []) × (new ≡ old) × (length old.log ≡ log_bound)
BeginTells job s c blind (Err refused.Whole) old new entries =
    (entries ≡ []) × (new ≡ old) × (length old.log < log_bound)
    × (is_unsound (slot_at old.table s c) ≡ false)
BeginTells job s c blind (Err (refused.Standing column)) old new entries =
    (entries ≡ []) × (new ≡ old) × (length old.log < log_bound)
    × IsTrue (is_unsound (slot_at old.table s c))
    × IsSomeAnd (relay_at old.table s) (λ r. r.target ≡ column)
BeginTells job s c blind (Err (refused.TwoGone first second)) old new entries =
    (entries ≡ entry.Stuck job s c second ∷ []) × (length old.log < log_bound) × (first ≡ c)
    × LogsEntry (entry.Stuck job s c second) [] old new
    × (new.shelves ≡ old.shelves)
BeginTells job s c blind (Err refused.Crowded) old new entries =
    (entries ≡ []) × (new ≡ old) × (length old.log < log_bound)
    × IsTrue (is_unsound (slot_at old.table s c)) × (relay_at old.table s ≡ None)
    × (stuck_by old.table s c ≡ None) × (Legal old.table (entry.Begin job s c) → ⊥)

pub record BeginCall (told : Type 0) (job : ℕ) (place : Place) (blind : List ℕ)
    (result : Result (Unit {0}) BeginFault) (old new : GroupView)
    (entries : List Entry) : Type 0 where
  pub tells : BeginTells job place.stripe place.column blind result old new entries
  pub step : told
      → BeginStep job place.stripe place.column blind (begin_as result) (state_of old)
      (state_of new)

-- A STEP OF A RELAY

-- what the step of a stripe's relay logs
abbrev pub RelayEntries : ℕ → ℕ → Result Advanced AdvanceFault → GroupView → List Entry → Type 0
RelayEntries job s (Ok advanced.Hopped) old entries =
    OnWay old s (λ f c. entries ≡ entry.Hop job s c ∷ [])
RelayEntries job s (Ok advanced.Ended) old entries =
    OnWay old s (λ f c. entries ≡ entry.GaveUp job s f.relay.target c ∷ [])
RelayEntries job s (Ok advanced.Mended) old entries =
    AtEnd old s (λ f. entries ≡ entry.Mended job s f.relay.target ∷ [])
RelayEntries job s (Err (failed.Odd wanted found)) old entries =
    AtEnd old s (λ f. entries ≡ entry.Oddly job s f.relay.target found ∷ [])
RelayEntries job s (Err (failed.Faulted column)) old entries =
    entries ≡ entry.Fault job s column ∷ []
RelayEntries job s (Err failed.LogFull) old entries = ⊥
RelayEntries job s (Err failed.Idle) old entries = ⊥

-- What the answer of an advance says, and the one entry that it logged. LogFull and Idle log none,
-- and nothing changes.
abbrev pub AdvanceTells : ℕ → ℕ → Result Advanced AdvanceFault → GroupView → GroupView → List Entry
    → Type 0
AdvanceTells job s (Err failed.LogFull) old new entries =
    (entries ≡ []) × (new ≡ old) × (length old.log ≡ log_bound)
AdvanceTells job s (Err failed.Idle) old new entries =
    (entries ≡ []) × (new ≡ old) × (length old.log < log_bound) × (relay_at old.table s ≡ None)
AdvanceTells job s answer old new entries =
    (length old.log < log_bound) × Moves job s answer old new
    × RelayEntries job s answer old entries

pub record AdvanceCall (told : Type 0) (job s : ℕ) (result : Result Advanced AdvanceFault)
    (old new : GroupView) (entries : List Entry) : Type 0 where
  pub tells : AdvanceTells job s result old new entries
  pub keeps : Keeps old.shelves new.shelves
  pub step : told → AdvanceStep job s (advance_as result) (state_of old) (state_of new)
  pub lossless : told → NoneLost old.shelves new.shelves
      → LosesNothing (state_of old) (state_of new)
  pub writes : told → AdvanceWrites s result old new

-- A MEND

-- What the answer of a mend says, and the one entry that it logged: as a begin, or as the advance
-- that it made.
abbrev pub MendTells : ℕ → ℕ → ℕ → List ℕ → Mend → GroupView → GroupView → List Entry → Type 0
MendTells job s c blind mend.Whole old new entries =
    BeginTells job s c blind (Err refused.Whole) old new entries
MendTells job s c blind mend.LogFull old new entries =
    BeginTells job s c blind (Err refused.LogFull) old new entries
MendTells job s c blind mend.Began old new entries =
    BeginTells job s c blind (Ok (tt)) old new entries
MendTells job s c blind (mend.TwoGone first second) old new entries =
    BeginTells job s c blind (Err (refused.TwoGone first second)) old new entries
MendTells job s c blind answer old new entries =
    (length old.log < log_bound)
    × ((d : Drives job s c answer old new) × RelayEntries job d.stripe d.result old entries)

pub record MendCall (told : Type 0) (job : ℕ) (place : Place) (blind : List ℕ) (result : Mend)
    (old new : GroupView) (entries : List Entry) : Type 0 where
  pub tells : MendTells job place.stripe place.column blind result old new entries
  pub keeps : Keeps old.shelves new.shelves
  pub step : told
      → MendStep job place.stripe place.column blind (mend_as result) (state_of old) (state_of new)
  pub lossless : told → NoneLost old.shelves new.shelves
      → LosesNothing (state_of old) (state_of new)
  pub writes : told → MendWrites job place.stripe place.column result old new

-- A STEP OF A MOVE

-- what it logs
abbrev pub MoveEntries : ℕ → ℕ → Result MoveStep MoveFault → GroupView → List Entry → Type 0
MoveEntries job c (Ok moved.Copied) old entries =
    OnMove old c (λ m. entries ≡ entry.Moved job m.upto c true ∷ [])
MoveEntries job c (Ok moved.Passed) old entries =
    OnMove old c (λ m. entries ≡ entry.Moved job m.upto c false ∷ [])
MoveEntries job c (Ok moved.Ended) old entries = entries ≡ entry.MoveEnd job c ∷ []
MoveEntries job c (Err (stopped.Faulted column)) old entries =
    OnMove old c (λ m. entries ≡ entry.Fault job m.upto c ∷ [])
MoveEntries job c (Err stopped.LogFull) old entries = ⊥
MoveEntries job c (Err stopped.Idle) old entries = ⊥

-- What its answer says. LogFull and Idle log nothing, and nothing changes.
abbrev pub MoveTells : ℕ → ℕ → Result MoveStep MoveFault → GroupView → GroupView → List Entry
    → Type 0
MoveTells job c (Err stopped.LogFull) old new entries =
    (entries ≡ []) × (new ≡ old) × (length old.log ≡ log_bound)
MoveTells job c (Err stopped.Idle) old new entries =
    (entries ≡ []) × (new ≡ old) × (length old.log < log_bound)
    × ((column_at old.table c).moving ≡ None)
MoveTells job c answer old new entries =
    (length old.log < log_bound) × MovesOn job c answer old new
    × MoveEntries job c answer old entries

pub record MoveStepCall (told : Type 0) (job column : ℕ) (result : Result MoveStep MoveFault)
    (old new : GroupView) (entries : List Entry) : Type 0 where
  pub tells : MoveTells job column result old new entries
  pub keeps : Keeps old.shelves new.shelves
  pub step : told → move.MoveStep job column (move_as result) (state_of old) (state_of new)
  pub writes : told → MoveWrites column result old new

-- AN ARCHIVE COMES

-- Its entry was logged.
pub record ComesBy {A : Type 0} (told : Type 0) (meaning : A → Meaning) (e : Entry)
    (shelf : Shelf A) (old new : GroupView) (entries : List Entry) : Type 0 where
  pub entries_are : entries ≡ e ∷ []
  pub comes : Comes told meaning e shelf old new

-- It was handed back, and nothing changes. The archives of the group are those of the table that it
-- began with, and those that its log brought.
pub record HandedBack {A : Type 0} (shelf : Shelf A) (handed : ShelfRefused A) (old new : GroupView)
    (entries : List Entry) : Type 0 where
  pub entries_are : entries ≡ []
  pub same : new ≡ old
  pub shelf_is : handed.shelf ≡ shelf
  pub arrived : HasArrived old.first old.log old.shelves.numbers

abbrev pub MoveBeginCall : {A : Type 0} → Type 0 → (A → Meaning) → ℕ → ℕ → Shelf A
    → Result (Unit {0}) (ShelfRefused A) → GroupView → GroupView → List Entry → Type 0
MoveBeginCall told meaning job c shelf (Ok u) old new entries =
    ComesBy told meaning (entry.MoveBegin job c shelf.number) shelf old new entries
MoveBeginCall told meaning job c shelf (Err r) old new entries =
    HandedBack shelf r old new entries × RefusesMove old c shelf.number r.cause

abbrev pub SwapCall : {A : Type 0} → Type 0 → (A → Meaning) → ℕ → ℕ → Shelf A
    → Result ℕ (ShelfRefused A) → GroupView → GroupView → List Entry → Type 0
SwapCall told meaning job c shelf (Ok n) old new entries =
    ComesBy told meaning (entry.Swapped job c shelf.number) shelf old new entries
    × (n ≡ live_in old.table c)
SwapCall told meaning job c shelf (Err r) old new entries =
    HandedBack shelf r old new entries × RefusesSwap old shelf.number r.cause
