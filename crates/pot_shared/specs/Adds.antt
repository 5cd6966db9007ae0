-- What the calls of a job on one group did, as the passes saw it.
use Rattle.std.specs.Prelude.{◌≡◌, ◌≢◌, ◌⊎◌, ◌≤◌, ◌<◌, ◌+◌, ℕ, Bool, false, List, [], ◌++◌, Option}
use Rattle.std.specs.Prelude.{IfSome, length}
use Rattle.pot_bytes.specs.declared.rack.Place.{Place}
use Rattle.pot_machine.specs.declared.entry.Entry.{Entry}
use Rattle.pot_machine.specs.declared.slot.SlotState.{SlotState}
use Rattle.pot_machine.specs.Table.{Table, width, slot_at}
use Rattle.pot_machine.specs.Logs.{own, replayed}
use Rattle.pot_group.specs.Finding.{IsPlace}
use Rattle.pot_rows.specs.Rows.{view_at}
use Rattle.pot_rows.specs.Works.{RowWroteOnlyFor, RowOnlyWriterOf}
use Rattle.pot_shared.specs.Members.{entries_of}
use Rattle.pot_shared.specs.Ready.{GroupPasses}
use Rattle.pot_shared.specs.Works.{of_job, gained}

-- The job logged these entries in a group and none in any other, where nobody else logged an entry
-- of it. What the pass has seen grew by no less, and fits a log.
pub record Adds (job g : ℕ) (entries : List Entry) (old new : GroupPasses) : Type 0 where
  pub worked : RowWroteOnlyFor (of_job job) old new
  pub own_is : RowOnlyWriterOf (of_job job) old new → own job (gained old new g) ≡ entries
  pub none_else : RowOnlyWriterOf (of_job job) old new → (h : ℕ) → h ≢ g → own job (gained old new h) ≡ []
  pub grew : length (view_at old g).seen + length entries ≤ length (view_at new g).seen

-- the table that the group of a number read, as far as its pass knows one
abbrev pub IsFirstTableSeen : ℕ → GroupPasses → Table → Type 0
IsFirstTableSeen g row first = IfSome (view_at row g).origin (λ o. first ≡ o.first)

-- at some point of what the pass of a group gained, its table was so, the one that it read being
-- `first`
abbrev pub Once : (Table → Table → Type 0) → ℕ → GroupPasses → GroupPasses → Type 0
Once P g old new =
    (first : Table) → IsFirstTableSeen g old first
    → (x : List Entry) × (y : List Entry) × (gained old new g ≡ x ++ y)
    × P first (replayed first (entries_of (view_at old g).seen ++ x))

-- the slot, if it is one, fails the test
abbrev pub FailsTest : (SlotState → Bool) → ℕ → ℕ → Table → Table → Type 0
FailsTest test n k first t = n < first.stripes → k < width first → test (slot_at t n k) ≡ false

-- this is the first place at or after one whose slot passes the test
abbrev pub IsNextOf : (SlotState → Bool) → ℕ → ℕ → Option Place → ℕ → Table → Table → Type 0
IsNextOf test s c found g first t =
    (t.stripes ≡ first.stripes) × (width t ≡ width first) × IsPlace g t test s c found

-- at some point it was so
abbrev pub FailsOnce : (SlotState → Bool) → ℕ → ℕ → ℕ → GroupPasses → GroupPasses → Type 0
FailsOnce test n k g old new = Once (FailsTest test n k) g old new

abbrev pub FindsNext : (SlotState → Bool) → ℕ → ℕ → Option Place → ℕ → GroupPasses → GroupPasses
    → Type 0
FindsNext test s c found g old new = Once (IsNextOf test s c found g) g old new

-- a place is at this one or behind it
abbrev pub IsFromOn : ℕ → ℕ → Place → Type 0
IsFromOn s c p = (s < p.stripe) ⊎ ((s ≡ p.stripe) × (c ≤ p.column))
