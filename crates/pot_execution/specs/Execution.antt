-- The calls of a group, one after another, and the states that they lead to. They are said of
-- archives that tell what they hold.
use Rattle.std.specs.Prelude.{◌≡◌, ◌<◌, ℕ, true, List, [], ◌∷◌, ◌++◌, Option, None, Some, All}
use Rattle.std.specs.Prelude.{Contains, slice_get}
use Rattle.pot_outside.specs.Archives.{IsCoherent, Meaning}
use Rattle.pot_outside.specs.Counts.{Rose}
use Rattle.pot_bytes.specs.Lists.{IsBlock}
use Rattle.pot_machine.specs.declared.entry.Entry.{Entry}
use Rattle.pot_machine.specs.declared.entry.Entry.TheVariants as entry
use Rattle.pot_machine.specs.Table.{Table, width, archives_in, serving_at}
use Rattle.pot_steps.specs.Stripe.{Sound}
use Rattle.pot_steps.specs.Holdings.{stripe_of}
use Rattle.pot_steps.specs.GroupStep.{GroupState, StartStep, PutStep, PutAnswer, NotPut}
use Rattle.pot_steps.specs.GroupStep.{LookStep, Looked, CountStep}
use Rattle.pot_steps.specs.RelaySteps.{MendStep, MendAnswer, Began}
use Rattle.pot_steps.specs.MoveSteps.{BringStep, MoveStep, MoveAnswer}
use Rattle.pot_shelves.specs.Shelves.{Shelves}
use Rattle.pot_group.specs.Arrivals.{arrivals}
use Rattle.pot_group.specs.Group.{GroupView, state_of}

-- A call of a group, with what was handed to it and its answer. The archive that a call brings has
-- the contents and the sums heard with which it came.
pub data Call : Type 0 where
  Open : Call
  Put : (job : ℕ) (block : List ℕ) (answer : PutAnswer) → Call
  Look : (job s c : ℕ) (answer : Looked) → Call
  Count : (job : ℕ) → Call
  Mend : (job s c : ℕ) (blind : List ℕ) (answer : MendAnswer) → Call
  MoveBegin : (job c to : ℕ) (held : ℕ → Option (List ℕ)) (heard : List (ℕ × List ℕ)) → Call
  MoveOne : (job c : ℕ) (answer : MoveAnswer) → Call
  Swap : (job c to : ℕ) (held : ℕ → Option (List ℕ)) (heard : List (ℕ × List ℕ)) → Call

-- a call once the table is opened: any but the opening
abbrev pub IsAtWork : Call → Type 0
IsAtWork Open = ⊥
IsAtWork _ = Unit {0}

-- what it asks for
abbrev pub IsCallAsked : Call → GroupState → Type 0
IsCallAsked (Put job block answer) old = IsBlock block
IsCallAsked (Look job s c answer) old = (s < old.table.stripes) × (c < width old.table)
IsCallAsked (Mend job s c blind answer) old =
    (s < old.table.stripes) × (c < width old.table) × IsBlock blind
IsCallAsked (MoveBegin job c to held heard) old = c < width old.table
IsCallAsked (Swap job c to held heard) old = c < width old.table
IsCallAsked _ old = Unit {0}

-- and its step
abbrev pub StepOf : Call → GroupState → GroupState → Type 0
StepOf Open old new = StartStep old new
StepOf (Put job block answer) old new = PutStep job block answer old new
StepOf (Look job s c answer) old new = LookStep job s c answer old new
StepOf (Count job) old new = CountStep job old new
StepOf (Mend job s c blind answer) old new = MendStep job s c blind answer old new
StepOf (MoveBegin job c to held heard) old new =
    BringStep (entry.MoveBegin job c to) to held heard old new
StepOf (MoveOne job c answer) old new = MoveStep job c answer old new
StepOf (Swap job c to held heard) old new =
    BringStep (entry.Swapped job c to) to held heard old new

-- call after call
abbrev pub Leads : List Call → GroupState → GroupState → Type 0
Leads [] old new = new ≡ old
Leads (c ∷ cs) old new =
    (mid : GroupState) × IsCallAsked c old × StepOf c old mid × Leads cs mid new

-- the blind of the relay that a call began, if it began one
abbrev pub blind_of : Call → List (List ℕ)
blind_of (Mend job s c blind Began) = blind ∷ []
blind_of _ = []

-- those of calls, in order
abbrev pub blinds_of : List Call → List (List ℕ)
blinds_of [] = []
blinds_of (c ∷ cs) = blind_of c ++ blinds_of cs

-- A put among these calls was handed this block, and answered that the archive of a column failed;
-- and the log has at this place the Fault that tells so.
abbrev pub WasTried : List Call → List Entry → ℕ × List ℕ → Type 0
WasTried calls log x =
    (job : ℕ) × (s : ℕ) × (c : ℕ) × Contains calls (Put job x.1 (NotPut c))
    × (slice_get log x.0 ≡ Some (entry.Fault job s c))

-- The state of a group before its opening: its table is this, it has no log and no flight, each of
-- its archives holds and has heard what it meant when it was taken, and no other holds or has heard
-- anything.
pub record IsUnopened (first : Table) (taken : ℕ → Meaning) (start : GroupState) : Type 0 where
  pub table : start.table ≡ first
  pub log : start.log ≡ []
  pub flights : start.flights ≡ []
  pub held : (n slot : ℕ) → Contains (archives_in first) n
      → start.held n slot ≡ (taken n).held slot
  pub heard : (n : ℕ) → Contains (archives_in first) n → start.heard n ≡ (taken n).heard
  pub none : (n slot : ℕ) → (Contains (archives_in first) n → ⊥) → start.held n slot ≡ None
  pub silent : (n : ℕ) → (Contains (archives_in first) n → ⊥) → start.heard n ≡ []

-- the archives that a group has had: those of the table that it began with, and those that its log
-- brought
abbrev pub had : GroupView → List ℕ
had g = archives_in g.first ++ arrivals g.log

-- the archive that a call brought is one of these, and came as it meant when it was taken
abbrev pub CameAs : List ℕ → (ℕ → Meaning) → Call → Type 0
CameAs numbers taken (MoveBegin job c to held heard) =
    Contains numbers to × ((slot : ℕ) → held slot ≡ (taken to).held slot)
    × (heard ≡ (taken to).heard)
CameAs numbers taken (Swap job c to held heard) =
    Contains numbers to × ((slot : ℕ) → held slot ≡ (taken to).held slot)
    × (heard ≡ (taken to).heard)
CameAs numbers taken _ = Unit {0}

abbrev pub AllCame : List ℕ → (ℕ → Meaning) → List Call → Type 0
AllCame numbers taken [] = Unit {0}
AllCame numbers taken (c ∷ cs) = CameAs numbers taken c × AllCame numbers taken cs

-- the count of faults of the archive of this number rose while a group opened its table
abbrev pub FailedInOpening : Shelves → ℕ → Type 0
FailedInOpening s n = Rose (s.faults_taken n) (s.faults_opened n)

-- What the opening of a group found gone is not sound after it, unless the count of faults of the
-- archive that serves it rose in the opening.
abbrev pub GoneOrFailed : (g : GroupView) → (start opened : GroupState) → StartStep start opened
    → Type 0
GoneOrFailed g start opened opening =
    (s c : ℕ) → s < g.first.stripes → c < width g.first → opening.gone s c ≡ true
    → Sound (stripe_of g.first opened.held s) c
    → FailedInOpening g.shelves (serving_at g.first s c)

-- A group opened its table, once and first of all, and its calls since lead from there to its state
-- now. Its relays had the blinds that they began with, and each block that it keeps of a put whose
-- write failed is the one that the put was handed. Its archives came as they meant when they were
-- taken. Each then remembered the blocks that it held, and held none from slot 2^32 on.
pub record HasExecution (g : GroupView) : Type 0 where
  pub start : GroupState
  pub unopened : IsUnopened g.first g.shelves.taken start
  pub opened : GroupState
  pub opening : StartStep start opened
  pub finds : GoneOrFailed g start opened opening
  pub calls : List Call
  pub at_work : All IsAtWork calls
  pub leads : Leads calls opened (state_of g)
  pub blinds : blinds_of calls ≡ g.blinds
  pub tried : (x : ℕ × List ℕ) → Contains g.tried x → WasTried calls g.log x
  pub came : AllCame (had g) g.shelves.taken calls
  pub coherent : (n : ℕ) → IsCoherent (g.shelves.taken n)
