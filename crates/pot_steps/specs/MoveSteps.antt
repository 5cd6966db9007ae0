-- The steps of a group that bring an archive and move a column, as relations over plain data. They
-- are said of archives that tell what they hold.
use Rattle.std.specs.Prelude.{◌≡◌, ◌≢◌, ℕ, List, [], Option, None, IsSomeAnd, true, false}
use Rattle.pot_machine.specs.declared.entry.Entry.{Entry}
use Rattle.pot_machine.specs.declared.entry.Entry.TheVariants as entry
use Rattle.pot_machine.specs.Table.{Table, column_at}
use Rattle.pot_steps.specs.Stripe.{Sound}
use Rattle.pot_steps.specs.Holdings.{stripe_of}
use Rattle.pot_steps.specs.GroupStep.{GroupState, FullStep, Settled}
use Rattle.pot_steps.specs.RelaySteps.{Logged, HeardStays, Unchanged}

-- An archive comes with what it holds and has heard. No archive of this number was in the group,
-- and the others stay as they are.
pub record BringsToGroup (number : ℕ) (held : ℕ → Option (List ℕ)) (heard : List (ℕ × List ℕ))
    (old new : GroupState) : Type 0 where
  pub blocks : (slot : ℕ) → new.held number slot ≡ held slot
  pub sums : new.heard number ≡ heard
  pub others : (n slot : ℕ) → n ≢ number → new.held n slot ≡ old.held n slot
  pub silent : (n : ℕ) → n ≢ number → new.heard n ≡ old.heard n

-- `begin` of a move, and a swap
pub record BringStep (e : Entry) (number : ℕ) (held : ℕ → Option (List ℕ))
    (heard : List (ℕ × List ℕ)) (old new : GroupState) : Type 0 where
  pub logs : Logged e [] old new
  pub brings : BringsToGroup number held heard old new

-- ONE STRIPE OF A MOVE

pub data MoveAnswer : Type 0 where
  Copied : MoveAnswer
  Passed : MoveAnswer
  MoveEnded : MoveAnswer
  MoveFaulted : MoveAnswer
  MoveIdle : MoveAnswer
  MoveFull : MoveAnswer

-- the column moves, and has come to this stripe
abbrev pub IsMoveAt : Table → ℕ → ℕ → Type 0
IsMoveAt t c s = IsSomeAnd (column_at t c).moving (λ m. m.upto ≡ s)

abbrev pub MoveStep : ℕ → ℕ → MoveAnswer → GroupState → GroupState → Type 0
MoveStep job c Copied old new =
    (s : ℕ) × Logged (entry.Moved job s c true) [] old new × HeardStays old new
MoveStep job c Passed old new =
    (s : ℕ) × Logged (entry.Moved job s c false) [] old new × HeardStays old new
    × (Sound (stripe_of old.table new.held s) c → ⊥)
MoveStep job c MoveEnded old new = Logged (entry.MoveEnd job c) [] old new × HeardStays old new
MoveStep job c MoveFaulted old new =
    (s : ℕ) × Logged (entry.Fault job s c) [] old new × HeardStays old new × IsMoveAt old.table c s
MoveStep job c MoveIdle old new = Unchanged old new × ((column_at old.table c).moving ≡ None)
MoveStep job c MoveFull old new = FullStep old new

abbrev pub BringStepKeeps : Type 0
BringStepKeeps =
    (e : Entry) (number : ℕ) (held : ℕ → Option (List ℕ)) (heard : List (ℕ × List ℕ))
    (old new : GroupState) → BringStep e number held heard old new → Settled old → Settled new

abbrev pub MoveStepKeeps : Type 0
MoveStepKeeps =
    (job c : ℕ) (answer : MoveAnswer) (old new : GroupState) → MoveStep job c answer old new
    → Settled old → Settled new
