-- What moves and swaps do to a group, whether or not archives tell.
use Rattle.std.specs.Prelude.{◌≡◌, ◌⊎◌, ◌<◌, ℕ, List, [], Option, Some, None, Result, Ok, Err}
use Rattle.std.specs.Prelude.{Contains, IsSome, IsSomeAnd, IsTrue, true, false, length}
use Rattle.pot_bytes.specs.Rack.{log_bound}
use Rattle.pot_outside.specs.Archives.{Meaning}
use Rattle.pot_outside.specs.Counts.{Rose}
use Rattle.pot_outside.specs.declared.faults.Failed.{Failed}
use Rattle.pot_outside.specs.declared.archive.Shelf.{Shelf}
use Rattle.pot_machine.specs.declared.column.Moving.{Moving}
use Rattle.pot_machine.specs.declared.entry.Entry.{Entry}
use Rattle.pot_machine.specs.declared.entry.Entry.TheVariants as entry
use Rattle.pot_machine.specs.Slot.{is_live}
use Rattle.pot_machine.specs.Table.{Table, slot_at, column_at, serving_at, count}
use Rattle.pot_steps.specs.Stripe.{IsSound}
use Rattle.pot_steps.specs.Holdings.{stripe_of}
use Rattle.pot_steps.specs.MoveSteps as step
use Rattle.pot_group.specs.declared.copying.MoveStep.{MoveStep}
use Rattle.pot_group.specs.declared.copying.MoveStep.TheVariants as moved
use Rattle.pot_group.specs.declared.copying.MoveFault.{MoveFault}
use Rattle.pot_group.specs.declared.copying.MoveFault.TheVariants as failed
use Rattle.pot_group.specs.declared.moving.ShelfCause.{ShelfCause}
use Rattle.pot_group.specs.declared.moving.ShelfCause.TheVariants as cause
use Rattle.pot_shelves.specs.Shelves.{Brings, Keeps, LosesByCount, WritesInto}
use Rattle.pot_group.specs.Group.{GroupView, state_of}
use Rattle.pot_group.specs.Relaying.{LogsEntry}

-- AN ARCHIVE COMES

-- the number in whose use a move can't begin: the column moves, with this home, or it does not and
-- an archive has the number
abbrev pub MoveUse : GroupView → ℕ → ℕ → Option ℕ → Type 0
MoveUse g c number (Some n) =
    (IsSome (column_at g.table c).moving × (n ≡ (column_at g.table c).home))
    ⊎ (((column_at g.table c).moving ≡ None) × Contains g.shelves.numbers number × (n ≡ number))
MoveUse g c number None =
    ((column_at g.table c).moving ≡ None) × (Contains g.shelves.numbers number → ⊥)

-- why an archive that a column was to move to is handed back
abbrev pub RefusesMove : GroupView → ℕ → ℕ → ShelfCause → Type 0
RefusesMove g c number cause.LogFull = length g.log ≡ log_bound
RefusesMove g c number (cause.InUse n) = (length g.log < log_bound) × MoveUse g c number (Some n)
RefusesMove g c number cause.NoMemory = (length g.log < log_bound) × MoveUse g c number None

-- and one that was to replace a home. An archive that was retired keeps its number
abbrev pub RefusesSwap : GroupView → ℕ → ShelfCause → Type 0
RefusesSwap g number cause.LogFull = length g.log ≡ log_bound
RefusesSwap g number (cause.InUse n) =
    (length g.log < log_bound) × Contains g.shelves.numbers number × (n ≡ number)
RefusesSwap g number cause.NoMemory =
    (length g.log < log_bound) × (Contains g.shelves.numbers number → ⊥)

-- An archive comes under a number that none has had, with its marks then, and its entry is logged.
-- Where archives tell, that is a step of the group.
pub record Comes {A : Type 0} (told : Type 0) (meaning : A → Meaning) (e : Entry) (shelf : Shelf A)
    (old new : GroupView) : Type 0 where
  pub room : length old.log < log_bound
  pub fresh : Contains old.shelves.numbers shelf.number → ⊥
  pub acts : LogsEntry e [] old new
  pub brings : Brings told shelf.number (meaning shelf.archive) old.shelves new.shelves
  pub steps : told
      → step.BringStep e shelf.number (meaning shelf.archive).held (meaning shelf.archive).heard
      (state_of old) (state_of new)

-- how many slots of a column are Live
abbrev pub live_in : Table → ℕ → ℕ
live_in t c = count t.stripes (λ s. is_live (slot_at t s c))

-- ONE STRIPE OF A MOVE

-- the answer of a move's step as the steps of a group name it
abbrev pub move_as : Result MoveStep MoveFault → step.MoveAnswer
move_as (Ok moved.Copied) = step.Copied
move_as (Ok moved.Passed) = step.Passed
move_as (Ok moved.Ended) = step.MoveEnded
move_as (Err failed.LogFull) = step.MoveFull
move_as (Err failed.Idle) = step.MoveIdle
move_as (Err (failed.Faulted column)) = step.MoveFaulted

abbrev pub OnMove : GroupView → ℕ → (Moving → Type 0) → Type 0
OnMove g c P = IsSomeAnd (column_at g.table c).moving P

-- a count of faults rose in the call
abbrev pub FaultRose : GroupView → GroupView → ℕ → Type 0
FaultRose old new number = Rose (old.shelves.faults number) (new.shelves.faults number)

-- The step of a column that moves. Faulted: the slot is Live, and the archive that serves it
-- failed, or the target.
abbrev pub MovesOn : ℕ → ℕ → Result MoveStep MoveFault → GroupView → GroupView → Type 0
MovesOn job c (Ok moved.Copied) old new =
    OnMove old c
    (λ m.
    (m.upto < old.table.stripes) × IsTrue (is_live (slot_at old.table m.upto c))
    × LogsEntry (entry.Moved job m.upto c true) [] old new)
MovesOn job c (Ok moved.Passed) old new =
    OnMove old c
    (λ m. (m.upto < old.table.stripes) × LogsEntry (entry.Moved job m.upto c false) [] old new)
MovesOn job c (Ok moved.Ended) old new =
    OnMove old c (λ m. (m.upto ≡ old.table.stripes) × LogsEntry (entry.MoveEnd job c) [] old new)
MovesOn job c (Err (failed.Faulted column)) old new =
    (column ≡ c)
    × OnMove old c
    (λ m. (m.upto < old.table.stripes) × IsTrue (is_live (slot_at old.table m.upto c))
    × (FaultRose old new (serving_at old.table m.upto c) ⊎ FaultRose old new m.to)
    × LogsEntry (entry.Fault job m.upto c) [] old new)
MovesOn job c (Err failed.LogFull) old new = ⊥
MovesOn job c (Err failed.Idle) old new = ⊥

-- the slot's own block, which is held, goes to the target, or its write fails
abbrev pub CopiesInto : ℕ → Result (Unit {0}) Failed → GroupView → GroupView → Type 0
CopiesInto c result old new =
    OnMove old c
    (λ m.
    (block : List ℕ) × IsSound (stripe_of old.table old.shelves.held m.upto) c block
    × WritesInto m.to m.upto block result old.shelves new.shelves)

-- What a step of a move writes, said of archives that tell. Copied: the slot's block, into the
-- target. Faulted: nothing, or what a failed write of that block may leave there. Else nothing.
-- Blocks may be lost besides.
abbrev pub MoveWrites : ℕ → Result MoveStep MoveFault → GroupView → GroupView → Type 0
MoveWrites c (Ok moved.Copied) old new = CopiesInto c (Ok (tt)) old new
MoveWrites c (Err (failed.Faulted column)) old new =
    LosesByCount old.shelves.held old.shelves new.shelves
    ⊎ ((e : Failed) × CopiesInto c (Err e) old new)
MoveWrites c answer old new = LosesByCount old.shelves.held old.shelves new.shelves

-- A step of a column that moves: what it does, that the archives stay with their marks, and, where
-- they tell, the step of a group and what was written.
pub record StepsMove (told : Type 0) (job c : ℕ) (result : Result MoveStep MoveFault)
    (old new : GroupView) : Type 0 where
  pub moves : MovesOn job c result old new
  pub keeps : Keeps old.shelves new.shelves
  pub steps : told → step.MoveStep job c (move_as result) (state_of old) (state_of new)
  pub writes : told → MoveWrites c result old new
