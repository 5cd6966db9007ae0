-- A group: the table that it began with, its table and its log now, and its archives. What it
-- keeps, and what its calls do.
use Rattle.std.specs.Prelude.{◌≡◌, ◌⊎◌, ◌≤◌, ◌<◌, ◌+◌, ◌++◌, ℕ, IsTrue, List, [], ◌∷◌, Option}
use Rattle.std.specs.Prelude.{Result, Ok, Err, Contains, length, IfSome, All}
use Rattle.pot_bytes.specs.declared.rack.Place.{Place}
use Rattle.pot_outside.specs.Counts.{Rose}
use Rattle.pot_outside.specs.Accounts.{Account}
use Rattle.pot_outside.specs.Archives.{Meaning}
use Rattle.pot_bytes.specs.Sums.{zero_block}
use Rattle.pot_bytes.specs.Rack.{log_bound}
use Rattle.pot_machine.specs.declared.slot.SlotState.{SlotState}
use Rattle.pot_machine.specs.declared.slot.SlotState.TheVariants.{Void, Live}
use Rattle.pot_machine.specs.declared.entry.Entry.{Entry}
use Rattle.pot_machine.specs.declared.entry.Entry.TheVariants as entry
use Rattle.pot_machine.specs.Slot.{is_live}
use Rattle.pot_machine.specs.Column.{names}
use Rattle.pot_machine.specs.Table.{Table, width, slot_at, column_at, serving_at}
use Rattle.pot_machine.specs.Machine.{Replays, TakesBlocks, after}
use Rattle.pot_machine.specs.Rules.{IsTable}
use Rattle.pot_bytes.specs.Digests.{digest_of}
use Rattle.pot_steps.specs.Stripe.{Stripe, Sound}
use Rattle.pot_steps.specs.declared.flight.Flight.{Flight}
use Rattle.pot_steps.specs.Flights.{AreFlights, FlightsHold}
use Rattle.pot_steps.specs.Holdings.{StripesConsistent, LiveLaw, stripe_of}
use Rattle.pot_steps.specs.GroupStep.{GroupState, Passed}
use Rattle.pot_steps.specs.GroupStep as step
use Rattle.pot_group.specs.declared.answers.Looked.{Looked}
use Rattle.pot_group.specs.declared.answers.Looked.TheVariants as looked
use Rattle.pot_group.specs.declared.answers.PutFault.{PutFault}
use Rattle.pot_group.specs.declared.answers.PutFault.TheVariants as fault
use Rattle.pot_shelves.specs.Shelves.{Shelves, Shelved, plain}
use Rattle.pot_group.specs.declared.reads.Found.{Found}
use Rattle.pot_group.specs.Causes.{CauseLaw, Covers, archives_of, faults_in}
use Rattle.pot_group.specs.Frames.{ArePlaced, IsFramed, Tries}
use Rattle.pot_group.specs.Heard.{HasHeard, begins}

-- A group, whatever its archives are seen as: its number, the table that it began with, its table
-- and its log now, a flight for each relay, the blind of each relay that its log begins, and the
-- block of each put of which its log says only that its write failed.
pub record GroupOf (Seen : Type 0) : Type 0 where
  pub number : ℕ
  pub first : Table
  pub table : Table
  pub log : List Entry
  pub flights : List Flight
  pub blinds : List (List ℕ)
  pub tried : Tries
  pub shelves : Seen

-- with its archives
abbrev pub GroupParts : Type 0 → Type 0
GroupParts A = GroupOf (Shelved A)

-- and as plain data
abbrev pub GroupView : Type 0
GroupView = GroupOf Shelves

abbrev pub view_of : {A : Type 0} → (A → Meaning) → GroupParts A → GroupView
view_of meaning g =
    record {
      number = g.number;
      first = g.first;
      table = g.table;
      log = g.log;
      flights = g.flights;
      blinds = g.blinds;
      tried = g.tried;
      shelves = plain meaning g.shelves;
    }

-- what is said of a group before and after a call, by the account of its archives: whether they
-- tell, and what each means
abbrev pub OnGroup : {A : Type 0} → Account A Meaning → (Type 0 → GroupView → GroupView → Type 0)
    → GroupParts A → GroupParts A → Type 0
OnGroup account R old new =
    R (IsTrue account.tells) (view_of account.meaning old) (view_of account.meaning new)

-- a stripe of a group: the slots of its table, and what its archives hold there
abbrev pub stripe_in : {A : Type 0} → Account A Meaning → GroupParts A → ℕ → Stripe
stripe_in account g s = stripe_of g.table (plain account.meaning g.shelves).held s

-- an entry is logged, and does in the table what it says
abbrev pub noted : {A : Type 0} → GroupParts A → Entry → GroupParts A
noted g e = record g { table = after g.table e; log = g.log ++ e ∷ [] }

abbrev pub with_archives : {A : Type 0} → GroupParts A → Shelved A → GroupParts A
with_archives g a = record g { shelves = a }

-- as the steps of a group speak of it
abbrev pub state_of : GroupView → GroupState
state_of g =
    record {
      table = g.table;
      log = g.log;
      held = g.shelves.held;
      heard = g.shelves.heard;
      flights = g.flights;
    }

-- the count of losses of the archive of this number rose since the group took it
abbrev pub LostSince : Shelves → ℕ → Type 0
LostSince s number = Rose (s.losses_taken number) (s.losses number)

-- a count of faults or of losses of the archive of this number rose while the group opened its
-- table
abbrev pub RoseInOpening : Shelves → ℕ → Type 0
RoseInOpening s number =
    Rose (s.faults_taken number) (s.faults_opened number)
    ⊎ Rose (s.losses_taken number) (s.losses_opened number)

-- What a group keeps. `told` is whether its archives tell what they hold.
pub record IsSettled (told : Type 0) (g : GroupView) : Type 0 where
  pub replay : Replays g.first g.log g.table
  pub table : IsTable g.table
  -- there is a flight for each relay, in the same order
  pub relays : AreFlights g.table g.flights
  pub bound : length g.log ≤ log_bound
  -- each home and each target is an archive of the group
  pub shelves : (c number : ℕ) → c < width g.table → IsTrue (names (column_at g.table c) number)
      → Contains g.shelves.numbers number
  -- each home and each target is one of the archives of its column, and so is the archive that
  -- serves a slot
  pub serves : (c number : ℕ) → c < width g.table → IsTrue (names (column_at g.table c) number)
      → Contains (archives_of g.first g.log c) number
  pub sizes : (g.table.data_columns ≡ g.first.data_columns) × (g.table.parity ≡ g.first.parity)
      × (g.table.stripes ≡ g.first.stripes)
  pub faults : (number : ℕ) → g.shelves.faults_taken number ≤ g.shelves.faults number
  pub losses : told → (number : ℕ) → g.shelves.losses_taken number ≤ g.shelves.losses number
  pub opened_faults : (number : ℕ) → g.shelves.faults_opened number ≤ g.shelves.faults number
  pub opened_losses : told → (number : ℕ) → g.shelves.losses_opened number ≤ g.shelves.losses number
  pub holds : told → StripesConsistent g.table g.shelves.held
  pub flying : told → FlightsHold g.table g.shelves.held g.flights
  pub live : told → LiveLaw g.table g.shelves.held (LostSince g.shelves)
  pub causes : CauseLaw told g.first g.log g.shelves
  pub frame : told → IsFramed g.first g.log g.tried g.shelves
  pub blinds : length g.blinds ≡ begins g.log
  pub tried : ArePlaced g.tried (length g.log)
  pub heard : told → HasHeard g.first g.log g.blinds g.flights g.shelves

-- the log grows by these entries, and the table is their replay
pub record Logs (entries : List Entry) (old new : GroupView) : Type 0 where
  pub number : new.number ≡ old.number
  pub first : new.first ≡ old.first
  pub log : new.log ≡ old.log ++ entries
  pub flights : new.flights ≡ old.flights
  pub blinds : new.blinds ≡ old.blinds
  pub tried : new.tried ≡ old.tried
  pub replay : Replays old.table entries new.table

-- the same, whatever blocks of puts came to those whose write failed
abbrev pub LogsOf : List Entry → GroupView → GroupView → Type 0
LogsOf entries old new = Logs entries old (record new { tried = old.tried })

-- one more fault of the column may be named
abbrev pub CoversOne : GroupView → ℕ → Type 0
CoversOne g c =
    Covers g.shelves (archives_of g.first g.log c) (faults_in g.first.data_columns c g.log + 1)

-- where a read failed, it may be
abbrev pub CoversIfNotRead : Found → GroupView → ℕ → Type 0
CoversIfNotRead Found.Sound g c = Unit {0}
CoversIfNotRead Found.Missing g c = Unit {0}
CoversIfNotRead Found.NotRead g c = CoversOne g c

-- an entry that says nothing untrue and puts no block
abbrev pub IsQuiet : Type 0 → GroupView → Entry → Type 0
IsQuiet told g (entry.Skip job s) = Unit {0}
IsQuiet told g (entry.Seen job s c) = Unit {0}
IsQuiet told g (entry.Counted job) = Unit {0}
IsQuiet told g (entry.Stuck job s c other) = Unit {0}
IsQuiet told g (entry.Fault job s c) = CoversOne g c
IsQuiet told g (entry.Gone job s c) = told → Sound (stripe_of g.table g.shelves.held s) c → ⊥
IsQuiet told g _ = ⊥

-- the archive that serves the slot failed in this call
abbrev pub FailedAt : GroupView → GroupView → ℕ → ℕ → Type 0
FailedAt old new s c =
    Rose (old.shelves.faults (serving_at old.table s c))
    (new.shelves.faults (serving_at old.table s c))

-- A LOOK

-- the answer of a look as the steps of a group name it
abbrev pub looked_as : Looked → List ℕ → step.Looked
looked_as looked.Seen into = step.Seen into
looked_as looked.Gone into = step.Gone
looked_as (looked.Faulted column) into = step.Faulted
looked_as looked.LogFull into = step.LogFull

-- what an answer says whether or not archives tell: Seen gives a block of the digest of a Live
-- slot, and Faulted comes only where the slot is Live and the archive failed
abbrev pub LookCause : Looked → GroupView → GroupView → ℕ → ℕ → List ℕ → Type 0
LookCause looked.Seen old new s c into = slot_at old.table s c ≡ Live (digest_of into)
LookCause looked.Gone old new s c into = Unit {0}
LookCause (looked.Faulted column) old new s c into =
    (column ≡ c) × FailedAt old new s c × IsTrue (is_live (slot_at old.table s c))
LookCause looked.LogFull old new s c into = new ≡ old

-- A PUT

-- the answer of a put as the steps of a group name it
abbrev pub put_as : Result Place PutFault → step.PutAnswer
put_as (Ok place) = step.Placed place.stripe place.column
put_as (Err fault.LogFull) = step.NoRoom
put_as (Err fault.Full) = step.Full
put_as (Err (fault.Faulted column)) = step.NotPut column

-- the old block of a parity slot, by what the table says of it: zeros where it is Void, else a
-- block of its digest
abbrev pub FitsSlot : SlotState → List ℕ → Type 0
FitsSlot x p = ((x ≡ Void) × (p ≡ zero_block)) ⊎ (x ≡ Live (digest_of p))

-- the old parity blocks of a stripe
abbrev pub FitsParity : Table → ℕ → List ℕ → List ℕ → Type 0
FitsParity t s p q =
    FitsSlot (slot_at t s t.data_columns) p
    × (t.parity ≡ 2 → FitsSlot (slot_at t s (t.data_columns + 1)) q)

-- the parity slot whose Gone a put logs, if it logs one: it was Live, in a stripe that takes blocks
-- else
abbrev pub FitsGone : Table → ℕ → Option ℕ → Type 0
FitsGone t s gone =
    IfSome gone (λ c. (t.data_columns ≤ c) × TakesBlocks t s × IsTrue (is_live (slot_at t s c)))

-- and of each stripe that it passes
abbrev pub FitsPassed : Table → List Passed → Type 0
FitsPassed t passed = All (λ x. FitsGone t x.stripe x.gone) passed
