-- Groups of the world that simulate running groups, call by call: a forward simulation.
use Rattle.std.specs.Prelude.{◌≡◌, ◌<◌, ℕ, zero, suc, List, [], ◌∷◌, ◌++◌, Bool, true, false, Some, None, map, All, IsTrue}
use Rattle.std.specs.Prelude.{◌&&◌, ◌^◌, length, Contains}
use Rattle.pot_machine.specs.declared.entry.Entry.{Entry}
use Rattle.pot_machine.specs.declared.entry.Entry.TheVariants as entry
use Rattle.pot_bytes.specs.declared.rack.Rack.{Rack}
use Rattle.pot_bytes.specs.Rack.{IsRack, log_bound}
use Rattle.pot_outside.specs.Archives.{Meaning}
use Rattle.pot_machine.specs.Making.{empty_table}
use Rattle.pot_machine.specs.Table.{width, archives_in}
use Rattle.pot_group.specs.Arrivals.{arrivals}
use Rattle.pot_group.specs.Group.{GroupView, state_of}
use Rattle.pot_steps.specs.Stripe.{Sound}
use Rattle.pot_steps.specs.Holdings.{stripe_of}
use Rattle.pot_steps.specs.GroupStep.{GroupState, StartStep, PutAnswer, Placed, NotPut, Full, NoRoom}
use Rattle.pot_steps.specs.Mending.{MendedWell}
use Rattle.pot_steps.specs.MoveSteps.{MoveAnswer, MoveFaulted, MoveFull}
use Rattle.pot_execution.specs.Execution.{Call, Open, Put, Look, Count, Mend, MoveBegin, MoveOne, Swap}
use Rattle.pot_execution.specs.Execution.{FailedInOpening, Leads, StepOf, HasExecution}
use Rattle.pot_world.specs.Group.{WorldGroup}
use Rattle.pot_world.specs.Acts.{Act, act, used_by, with_use, IsAllowed}
use Rattle.pot_world.specs.Later.{Sessions, reopened, reopened_site}
use Rattle.pot_world.specs.Reached.{Move, Site, Reaches, IsGood, first_group, first_site}
use Rattle.pot_world.specs.Reached.{first_used}
use Rattle.pot_world.specs.Ties.{SameState, IsArchiveFresh}

-- A group of the world simulates a running group: it keeps its rules, the archives in use
-- have a bound, what they hold stands in slots of the stripes, and table, flights, contents and
-- sums heard are those of the running group.
pub record Simulates (used : ℕ → Bool) (g : WorldGroup) (s : GroupState) : Type 0 where
  pub good : IsGood used g
  pub numbers : ℕ
  pub bound : (n : ℕ) → used n ≡ true → n < numbers
  pub inside : (n k : ℕ) (b : List ℕ) → g.state.held n k ≡ Some b → k < g.state.table.stripes
  pub same : SameState g.state s

-- no archive failed in a put, and the log had room
abbrev pub PutWell : PutAnswer → Type 0
PutWell (Placed s c) = Unit {0}
PutWell Full = Unit {0}
PutWell (NotPut column) = ⊥
PutWell NoRoom = ⊥

-- no archive failed in a step of a move, and the log had room
abbrev pub MoveFits : MoveAnswer → Type 0
MoveFits MoveFaulted = ⊥
MoveFits MoveFull = ⊥
MoveFits _ = Unit {0}

-- what an opening found gone is held no more
abbrev pub GoneIsMissing : (old new : GroupState) → StartStep old new → Type 0
GoneIsMissing old new step =
    (s c : ℕ) → s < old.table.stripes → c < width old.table → step.gone s c ≡ true
    → Sound (stripe_of old.table new.held s) c → ⊥

-- A call met no failing archive, or was a look, or an opening that found gone only what is held no
-- more; its log had room; and an archive that it brought had no use and was empty.
abbrev pub GoesWell : (ℕ → Bool) → (c : Call) → (old new : GroupState) → StepOf c old new → Type 0
GoesWell used Open old new step = GoneIsMissing old new step
GoesWell used (Put job block answer) old new step = PutWell answer
GoesWell used (Look job s c answer) old new step = Unit {0}
GoesWell used (Count job) old new step = Unit {0}
GoesWell used (Mend job s c blind answer) old new step = MendedWell answer
GoesWell used (MoveBegin job c to held heard) old new step =
    (used to ≡ false) × IsArchiveFresh held heard
GoesWell used (MoveOne job c answer) old new step = MoveFits answer
GoesWell used (Swap job c to held heard) old new step = (used to ≡ false) × IsArchiveFresh held heard

-- the archives that have a use after it
abbrev pub used_after : (ℕ → Bool) → Call → ℕ → Bool
used_after used (MoveBegin job c to held heard) = with_use used to
used_after used (Swap job c to held heard) = with_use used to
used_after used _ = used

-- and after calls
abbrev pub used_by_all : List Call → (ℕ → Bool) → ℕ → Bool
used_by_all [] used = used
used_by_all (c ∷ calls) used = used_by_all calls (used_after used c)

-- so did each call
abbrev pub AllWell : (ℕ → Bool) → (calls : List Call) → (old new : GroupState) → Leads calls old new
    → Type 0
AllWell used [] old new leads = Unit {0}
AllWell used (c ∷ calls) old new leads =
    GoesWell used c old leads.0 leads.2 × AllWell (used_after used c) calls leads.0 new leads.3

-- act after act, each allowed in its turn
abbrev pub ActsInTurn : (ℕ → Bool) → WorldGroup → List Act → (ℕ → Bool) → WorldGroup → Type 0
ActsInTurn used g [] after h = (after ≡ used) × (h ≡ g)
ActsInTurn used g (a ∷ acts) after h =
    IsAllowed used a g × ActsInTurn (used_by a used) (act a g) acts after h

-- acts lead to a group of the world that simulates this state
pub record ActsTo (used : ℕ → Bool) (g : WorldGroup) (after : ℕ → Bool) (new : GroupState) : Type
    0 where
  pub acts : List Act
  pub group : WorldGroup
  pub go : ActsInTurn used g acts after group
  pub follows : Simulates after group new

-- so it is with the calls of an execution that go well
abbrev pub ExecutionSimulated : Type 0
ExecutionSimulated =
    (used : ℕ → Bool) (g : WorldGroup) (calls : List Call) (old new : GroupState)
    → Simulates used g old → (leads : Leads calls old new) → AllWell used calls old new leads
    → ActsTo used g (used_by_all calls used) new

-- ALL GROUPS

-- running groups with their calls since they were so, one after another
pub record Ran : Type 0 where
  pub old : GroupState
  pub new : GroupState
  pub calls : List Call
  pub leads : Leads calls old new

-- each group of the world simulates the running group of its place, as it was
abbrev pub SimulateOld : (ℕ → Bool) → List WorldGroup → List Ran → Type 0
SimulateOld used [] [] = Unit {0}
SimulateOld used [] (r ∷ rs) = ⊥
SimulateOld used (g ∷ gs) [] = ⊥
SimulateOld used (g ∷ gs) (r ∷ rs) = Simulates used g r.old × SimulateOld used gs rs

-- and as it is
abbrev pub SimulateNew : (ℕ → Bool) → List WorldGroup → List Ran → Type 0
SimulateNew used [] [] = Unit {0}
SimulateNew used [] (r ∷ rs) = ⊥
SimulateNew used (g ∷ gs) [] = ⊥
SimulateNew used (g ∷ gs) (r ∷ rs) = Simulates used g r.new × SimulateNew used gs rs

-- each made its calls, which went well; no archive came to two of them
abbrev pub EachRan : (ℕ → Bool) → List Ran → Type 0
EachRan used [] = Unit {0}
EachRan used (r ∷ rs) =
    AllWell used r.calls r.old r.new r.leads × EachRan (used_by_all r.calls used) rs

abbrev pub used_by_each : List Ran → (ℕ → Bool) → ℕ → Bool
used_by_each [] used = used
used_by_each (r ∷ rs) used = used_by_each rs (used_by_all r.calls used)

-- Moves of the world lead from groups that simulated the running ones as they were to groups that
-- simulate them as they are.
abbrev pub ExecutionsReach : Type 0
ExecutionsReach =
    (x : Site) (ran : List Ran) → SimulateOld x.used x.groups ran → EachRan x.used ran
    → (moves : List Move) × (y : Site) × Reaches x moves y × (y.used ≡ used_by_each ran x.used)
    × SimulateNew y.used y.groups ran

-- THE FIRST SESSION, AND THE NEXT

-- the running groups began over the empty tables of a rack, from number n, and over archives that
-- held nothing and had heard nothing
abbrev pub AreEmpty : Rack → ℕ → ℕ → List Ran → Type 0
AreEmpty rack n zero [] = Unit {0}
AreEmpty rack n zero (r ∷ rs) = ⊥
AreEmpty rack n (suc more) [] = ⊥
AreEmpty rack n (suc more) (r ∷ rs) =
    SameState (first_group rack n).state r.old × AreEmpty rack (suc n) more rs

-- A first session whose calls went well is moves from the first groups of the rack.
abbrev pub SessionReaches : Type 0
SessionReaches =
    (rack : Rack) (ran : List Ran) → IsRack rack → AreEmpty rack 0 rack.groups ran
    → EachRan (first_used rack) ran
    → (moves : List Move) × (y : Site) × Reaches (first_site rack) moves y
    × (y.used ≡ used_by_each ran (first_used rack)) × SimulateNew y.used y.groups ran

-- so a running group begins anew: its table as an image has it; the archives of that table hold
-- and have heard what they did, and no other holds or has heard anything
pub record StartsAnew (end start : GroupState) : Type 0 where
  pub table : start.table ≡ record end.table { relays = [] }
  pub flights : start.flights ≡ []
  pub held : (n slot : ℕ) → Contains (archives_in start.table) n
      → start.held n slot ≡ end.held n slot
  pub heard : (n : ℕ) → Contains (archives_in start.table) n → start.heard n ≡ end.heard n
  pub none : (n slot : ℕ) → (Contains (archives_in start.table) n → ⊥) → start.held n slot ≡ None
  pub silent : (n : ℕ) → (Contains (archives_in start.table) n → ⊥) → start.heard n ≡ []

abbrev pub ReopenedSimulates : Type 0
ReopenedSimulates =
    (used : ℕ → Bool) (g : WorldGroup) (end start : GroupState) → Simulates used g end
    → StartsAnew end start → Simulates used (reopened g) start

-- GROUPS THAT ENDED

-- a running group as it ended, with its execution
pub record PastGroup : Type 0 where
  pub view : GroupView
  pub execution : HasExecution view

-- its opening and its calls
abbrev pub ran_of : PastGroup → Ran
ran_of p =
    record {
      old = p.execution.start;
      new = state_of p.view;
      calls = Open ∷ p.execution.calls;
      leads = (p.execution.opened, tt, p.execution.opening, p.execution.leads);
    }

abbrev pub all_ran : List PastGroup → List Ran
all_ran ps = map ran_of ps

-- WHAT A GROUP TELLS OF ITS CALLS

-- an entry of no fault, and of no parity block that was not kept
abbrev pub is_clean : Entry → Bool
is_clean (entry.Fault job s c) = false
is_clean (entry.Put job s c digest parity_digest kept) = kept
is_clean (entry.Put2 job s c digest parity_digest second_digest kept kept2) = kept && kept2
is_clean _ = true

-- an archive that held nothing and had heard nothing
pub record IsArchiveEmpty (m : Meaning) : Type 0 where
  pub held : (slot : ℕ) → slot < 2 ^ 32 → m.held slot ≡ None
  pub heard : m.heard ≡ []

-- these archives have a use too
abbrev pub with_uses : (ℕ → Bool) → List ℕ → ℕ → Bool
with_uses used [] = used
with_uses used (n ∷ ns) = with_uses (with_use used n) ns

-- these archives came one after another: each had no use, and was empty when it was taken
abbrev pub ComeEmpty : (ℕ → Bool) → (ℕ → Meaning) → List ℕ → Type 0
ComeEmpty used taken [] = Unit {0}
ComeEmpty used taken (n ∷ ns) =
    (used n ≡ false) × IsArchiveEmpty (taken n) × ComeEmpty (with_use used n) taken ns

-- Its log has room and names no fault and no parity block that was not kept. No count of faults of
-- an archive of its first table rose while it opened that table. And the archives that its log
-- brought had no use, and were empty when they were taken.
pub record WentWell (used : ℕ → Bool) (v : GroupView) : Type 0 where
  pub clean : All (λ e. IsTrue (is_clean e)) v.log
  pub room : length v.log < log_bound
  pub steady : (n : ℕ) → Contains (archives_in v.first) n → FailedInOpening v.shelves n → ⊥
  pub come : ComeEmpty used v.shelves.taken (arrivals v.log)

-- Then each of its calls went well, and the archives that they brought are those that its log
-- brought.
abbrev pub WellByLog : Type 0
WellByLog =
    (used : ℕ → Bool) (p : PastGroup) → WentWell used p.view
    → AllWell used (ran_of p).calls (ran_of p).old (ran_of p).new (ran_of p).leads
    × (used_by_all (ran_of p).calls used ≡ with_uses used (arrivals p.view.log))

-- the archives that have a use after these groups
abbrev pub used_since : List PastGroup → (ℕ → Bool) → ℕ → Bool
used_since [] used = used
used_since (p ∷ ps) used = used_since ps (with_uses used (arrivals p.view.log))

-- each went well, and no archive came to two of them
abbrev pub AllWentWell : (ℕ → Bool) → List PastGroup → Type 0
AllWentWell used [] = Unit {0}
AllWentWell used (p ∷ ps) =
    WentWell used p.view × AllWentWell (with_uses used (arrivals p.view.log)) ps

-- SESSIONS

-- It began over the empty table of its place, and over archives that were empty when they were
-- taken.
pub record IsNewGroup (rack : Rack) (n : ℕ) (v : GroupView) : Type 0 where
  pub first : v.first ≡ empty_table rack n
  pub empty : (m : ℕ) → Contains (archives_in v.first) m → IsArchiveEmpty (v.shelves.taken m)

-- so did each, from number n
abbrev pub AreNewGroups : Rack → ℕ → ℕ → List PastGroup → Type 0
AreNewGroups rack n zero [] = Unit {0}
AreNewGroups rack n zero (p ∷ ps) = ⊥
AreNewGroups rack n (suc more) [] = ⊥
AreNewGroups rack n (suc more) (p ∷ ps) = IsNewGroup rack n p.view × AreNewGroups rack (suc n) more ps

-- The groups that a first session leaves are those that moves from the first groups of the rack
-- lead to.
abbrev pub FirstSession : Type 0
FirstSession =
    (rack : Rack) (ps : List PastGroup) → IsRack rack → AreNewGroups rack 0 rack.groups ps
    → AllWentWell (first_used rack) ps
    → (moves : List Move) × (y : Site) × Reaches (first_site rack) moves y
    × (y.used ≡ used_since ps (first_used rack)) × SimulateNew y.used y.groups (all_ran ps)

-- A group began as one before it had ended: with that table as an image has it, and with archives
-- that held and had heard, when they were taken, what they did at that end.
pub record BeginsAnew (end v : GroupView) : Type 0 where
  pub first : v.first ≡ record end.table { relays = [] }
  pub held : (n slot : ℕ) → Contains (archives_in v.first) n → slot < 2 ^ 32
      → (v.shelves.taken n).held slot ≡ end.shelves.held n slot
  pub heard : (n : ℕ) → Contains (archives_in v.first) n
      → (v.shelves.taken n).heard ≡ end.shelves.heard n

-- A later session: its groups began so, each as that of its place in the session before.
abbrev pub BeginAnew : List PastGroup → List PastGroup → Type 0
BeginAnew [] [] = Unit {0}
BeginAnew [] (q ∷ qs) = ⊥
BeginAnew (p ∷ ps) [] = ⊥
BeginAnew (p ∷ ps) (q ∷ qs) = BeginsAnew p.view q.view × BeginAnew ps qs

-- From groups that simulated the ones before, reopened, moves lead to groups that simulate those
-- that it leaves.
abbrev pub NextSession : Type 0
NextSession =
    (x : Site) (ps qs : List PastGroup) → SimulateNew x.used x.groups (all_ran ps) → BeginAnew ps qs
    → AllWentWell x.used qs
    → (moves : List Move) × (y : Site)
    × Reaches (reopened_site x) moves y
    × (y.used ≡ used_since qs x.used) × SimulateNew y.used y.groups (all_ran qs)

-- session after session, each from what the one before left
abbrev pub Chain : (ℕ → Bool) → List PastGroup → List (List PastGroup) → Type 0
Chain used ps [] = Unit {0}
Chain used ps (qs ∷ more) =
    BeginAnew ps qs × AllWentWell used qs × Chain (used_since qs used) qs more

abbrev pub last_of : List PastGroup → List (List PastGroup) → List PastGroup
last_of ps [] = ps
last_of ps (qs ∷ more) = last_of qs more

-- What a first session and those that follow it leave is what sessions of a world lead to.
abbrev pub SessionsReach : Type 0
SessionsReach =
    (rack : Rack) (ps : List PastGroup) (more : List (List PastGroup)) → IsRack rack
    → AreNewGroups rack 0 rack.groups ps → AllWentWell (first_used rack) ps
    → Chain (used_since ps (first_used rack)) ps more
    → (sessions : List (List Move)) × (z : Site) × Sessions (first_site rack) sessions z
    × SimulateNew z.used z.groups (all_ran (last_of ps more))
