-- A repair, place by place, and its answers, each as the job's own entries give it.
use Rattle.std.specs.Prelude.{◌≡◌, ◌≤◌, ◌⊎◌, ℕ, ◌+◌, List, [], ◌∷◌, ◌++◌, Result}
use Rattle.std.specs.Prelude.{Ok, Err, length, filter, Contains}
use Rattle.pot_bytes.specs.declared.digest.Digest.{Digest}
use Rattle.pot_bytes.specs.declared.rack.Place.{Place}
use Rattle.pot_bytes.specs.Rack.{log_bound}
use Rattle.pot_machine.specs.declared.entry.Entry.{Entry}
use Rattle.pot_machine.specs.declared.entry.Entry.TheVariants as entry
use Rattle.pot_machine.specs.Slot.{is_unsound}
use Rattle.pot_machine.specs.Logs.{own}
use Rattle.pot_pads.specs.Pads.{Pads}
use Rattle.pot_rows.specs.Rows.{view_at}
use Rattle.pot_rows.specs.Works.{RowOnlyWriterOf, RowWroteOnlyFor}
use Rattle.pot_shared.specs.Ready.{GroupPasses}
use Rattle.pot_shared.specs.MendCalls.{drawn}
use Rattle.pot_replies.specs.Jobs.{is_relay, is_mended, is_left, is_stuck_at, EachIs, Precedes}
use Rattle.pot_replies.specs.Settings.{Setting}
use Rattle.pot_replies.specs.Sections.{Section}
use Rattle.pot_replies.specs.Scrubs.{IsRepaired, IsRepairFault, IsRepairLogFull}
use Rattle.pot_shared.specs.Blinds.{is_begin}
use Rattle.pot_shared.specs.Works.{of_job, gained}
use Rattle.pot_mend.specs.declared.fault.MendFault.{MendFault}
use Rattle.pot_mend.specs.declared.fault.MendFault.TheVariants as fault
use Rattle.pot_mend.specs.declared.repairing.Repaired.{Repaired}
use Rattle.pot_shared.specs.Adds.{Adds, FailsOnce}

-- THE JOB'S OWN ENTRIES

-- no relay of the place that the job began ended by an Oddly of the job
abbrev pub NotOdd : ℕ → List Entry → ℕ → ℕ → Type 0
NotOdd job entries n k =
    (f : Digest) (x between y : List Entry)
    → entries ≡ x ++ entry.Begin job n k ∷ (between ++ entry.Oddly job n k f ∷ y) → ⊥

-- and none was begun anew after one that did
abbrev pub NoneAgain : ℕ → List Entry → Type 0
NoneAgain job entries =
    (n k : ℕ) (f : Digest) (x between y z : List Entry)
    → entries
    ≡ (x ++ entry.Begin job n k ∷ (between ++ entry.Oddly job n k f ∷ y))
    ++ entry.Begin job n k ∷ z
    → ⊥

-- What a repair logged: of relays alone. Each Stuck is of a place before `stuck` and each Begin of
-- one before `begun`, with so many slots mended and left, and so many blinds drawn.
pub record AreRepairs (job : ℕ) (entries : List Entry) (stuck begun : ℕ × ℕ)
    (mended left draws : ℕ) : Type 0 where
  pub kinds : EachIs is_relay entries
  pub one_stuck : (n k : ℕ) → length (filter (is_stuck_at n k) entries) ≤ 1
  pub stuck_before : (j n k o : ℕ) → Contains entries (entry.Stuck j n k o) → Precedes (n, k) stuck
  pub begun_before : (j n k : ℕ) → Contains entries (entry.Begin j n k) → Precedes (n, k) begun
  pub none_again : NoneAgain job entries
  pub mended_is : mended ≡ length (filter is_mended entries)
  pub left_is : left ≡ length (filter is_left entries)
  pub counts : mended + left ≤ length entries
  pub blinds : length (filter is_begin entries) ≤ draws

-- PLACE AFTER PLACE

-- the place was left as it was
abbrev pub WasLeft : List Entry → ℕ → ℕ → ℕ → Type 0
WasLeft entries job n k =
    ((o : ℕ) × Contains entries (entry.Stuck job n k o))
    ⊎ ((f : Digest) × Contains entries (entry.Oddly job n k f))

-- the place is done: it was left, or was sound or Void at some point
abbrev pub IsPlaceDone : List Entry → ℕ → ℕ → ℕ → ℕ → GroupPasses → GroupPasses → Type 0
IsPlaceDone entries job n k g old now = WasLeft entries job n k ⊎ FailsOnce is_unsound n k g old now

-- What was done before this place.
pub record RepairSofar (job g s c mended left draws : ℕ) (old now : GroupPasses) : Type 0 where
  pub entries : List Entry
  pub adds : Adds job g entries old now
  pub are : AreRepairs job entries (s, c) (s, c) mended left draws
  pub done : (n k : ℕ) → Precedes (n, k) (s, c) → IsPlaceDone entries job n k g old now

-- A step failed behind these.
pub record RepairFails (job g column draws : ℕ) (old now : GroupPasses) : Type 0 where
  pub entries : List Entry
  pub stripe : ℕ
  pub stuck : ℕ × ℕ
  pub begun : ℕ × ℕ
  pub mended : ℕ
  pub left : ℕ
  pub adds : Adds job g (entries ++ entry.Fault job stripe column ∷ []) old now
  pub are : AreRepairs job entries stuck begun mended left draws

-- The log was full behind these.
pub record RepairFills (job g draws : ℕ) (old now : GroupPasses) : Type 0 where
  pub entries : List Entry
  pub stuck : ℕ × ℕ
  pub begun : ℕ × ℕ
  pub mended : ℕ
  pub left : ℕ
  pub adds : Adds job g entries old now
  pub are : AreRepairs job entries stuck begun mended left draws
  pub full : length (view_at now g).seen ≡ log_bound

-- The repair of one place, whatever was done before it, with so many more blinds drawn. What it
-- counted comes to what was counted before.
abbrev pub EndsPlace : ℕ → Place → Result Repaired MendFault → ℕ → GroupPasses → GroupPasses
    → Type 0
EndsPlace job p (Ok r) more v w =
    (old : GroupPasses) (mended left draws : ℕ)
    → RepairSofar job p.group p.stripe p.column mended left draws old v
    → RepairSofar job p.group p.stripe (p.column + 1) (mended + r.mended) (left + r.left)
    (draws + more) old w
EndsPlace job p (Err (fault.Faulted group column)) more v w =
    (group ≡ p.group)
    × ((old : GroupPasses) (mended left draws : ℕ)
    → RepairSofar job p.group p.stripe p.column mended left draws old v
    → RepairFails job p.group column (draws + more) old w)
EndsPlace job p (Err (fault.LogFull group)) more v w =
    (group ≡ p.group)
    × ((old : GroupPasses) (mended left draws : ℕ)
    → RepairSofar job p.group p.stripe p.column mended left draws old v
    → RepairFills job p.group (draws + more) old w)

-- how many slots it counted
abbrev pub counted : Result Repaired MendFault → ℕ
counted (Ok r) = r.mended + r.left
counted (Err e) = 0

pub record RepairsPlace (job : ℕ) (p : Place) (result : Result Repaired MendFault)
    (pads after : Pads) (v w : GroupPasses) : Type 0 where
  pub more : ℕ
  pub stream : after ≡ drawn pads more
  pub worked : RowWroteOnlyFor (of_job job) v w
  pub few : length (view_at v p.group).seen + counted result ≤ length (view_at w p.group).seen
  pub bound : length (view_at w p.group).seen ≤ log_bound
  pub ends : EndsPlace job p result more v w

-- THE ANSWERS

-- Some blinds were drawn, one after another, and no fewer than the job has relays that it began.
abbrev pub Draws : ℕ → ℕ → Pads → Pads → GroupPasses → GroupPasses → Type 0
Draws job g pads after old new =
    (n : ℕ) × (after ≡ drawn pads n)
    × (RowOnlyWriterOf (of_job job) old new
    → length (filter is_begin (own job (gained old new g))) ≤ n)

-- what each answer of a repair says of the section
abbrev pub RepairRow : Setting → ℕ → ℕ → Result Repaired MendFault → Section → Type 0
RepairRow s job g (Ok repaired) w = IsRepaired s job g repaired.mended repaired.left w
RepairRow s job g (Err (fault.Faulted group column)) w = (group ≡ g) × IsRepairFault job g column w
RepairRow s job g (Err (fault.LogFull group)) w = (group ≡ g) × IsRepairLogFull s job g w
