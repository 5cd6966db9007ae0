-- What a vault leaves when it ends: the table and the log of each group, the records and the log of
-- the index, and all archives.
use Rattle.std.specs.Prelude.{◌≡◌, ◌⊎◌, ◌<◌, ◌≤◌, ◌^◌, All, Contains, ◌++◌, ℕ, List, [], Some}
use Rattle.std.specs.Prelude.{length, slice_get}
use Rattle.pot_outside.specs.Archives.{Meaning}
use Rattle.pot_outside.specs.Counts.{Rose}
use Rattle.pot_outside.specs.declared.archive.Shelf.{Shelf}
use Rattle.pot_bytes.specs.declared.digest.Digest.{Digest}
use Rattle.pot_bytes.specs.declared.rack.Place.{Place}
use Rattle.pot_bytes.specs.declared.rack.Rack.{Rack}
use Rattle.pot_bytes.specs.Rack.{log_bound}
use Rattle.pot_machine.specs.declared.entry.Entry.{Entry}
use Rattle.pot_machine.specs.Logs.{IsKeptPut}
use Rattle.pot_machine.specs.Table.{Table}
use Rattle.pot_group.specs.Group.{GroupView, IsSettled}
use Rattle.pot_group.specs.Frames.{FailedBy, Tries, WrittenBy}
use Rattle.pot_group.specs.Heard.{Sum, FlyBy, FoldedBy, blinds_in}
use Rattle.pot_execution.specs.Execution.{HasExecution}
use Rattle.pot_shelves.specs.Shelves.{Shelves}
use Rattle.pot_index.specs.declared.record.Record.{Record}
use Rattle.pot_index.specs.declared.entry.IndexEntry.{IndexEntry}
use Rattle.pot_index.specs.declared.entry.Logged.{Logged}
use Rattle.pot_index.specs.Entries.{entries}
use Rattle.pot_index.specs.Index.{Names, names_read}
use Rattle.pot_index.specs.Index as names
use Rattle.pot_replies.specs.Sections.{Section}
use Rattle.pot_shared.specs.Catalogs.{AreFirstSplits, Publishes}
use Rattle.pot_shared.specs.Coming.{marks_of}
use Rattle.pot_shared.specs.Going.{AllOnlyWriters}
use Rattle.pot_shared.specs.Groups.{HasMarks, HasTaken, IsOpened, MarksRose, MarksRoseOften}
use Rattle.pot_shared.specs.Groups.{had_by, records_read}
use Rattle.pot_shared.specs.Works.{Known, section_of}

-- each log has fewer than 2^32 entries
abbrev pub AreShort : List (List Entry) → Type 0
AreShort logs = All (λ (l : List Entry). length l < 2 ^ 32) logs

-- a table as an image has it: relays are not written
abbrev pub still : Table → Table
still t = record t { relays = [] }

-- what is seen of an archive of a group is what it means
pub record Shows (s : Shelves) (n : ℕ) (m : Meaning) : Type 0 where
  pub blocks : (slot : ℕ) → s.held n slot ≡ m.held slot
  pub history : s.history n ≡ m.history
  pub sums : s.heard n ≡ m.heard
  pub faults : s.faults n ≡ m.faults
  pub losses : s.losses n ≡ m.losses

-- an archive of this number is in the hand, and means what is seen of it
abbrev pub IsInHand : {A : Type 0} → (A → Meaning) → List (Shelf A) → Shelves → ℕ → Type 0
IsInHand {A} meaning hand s n =
    (x : Shelf A) × Contains hand x × (x.number ≡ n) × Shows s n (meaning x.archive)

-- an archive of this number is in the hand, and a count of it rose above what the number meant
abbrev pub RoseInHand
    : {A : Type 0} → (A → Meaning) → List (Shelf A) → (ℕ → Meaning) → ℕ → Type 0
RoseInHand {A} meaning hand meant n =
    (x : Shelf A) × Contains hand x × (x.number ≡ n)
    × MarksRose (marks_of (meant n)) (marks_of (meaning x.archive))

-- and its counts so often
abbrev pub RoseOftenInHand
    : {A : Type 0} → (A → Meaning) → List (Shelf A) → (ℕ → Meaning) → ℕ → ℕ → Type 0
RoseOftenInHand {A} meaning hand meant n k =
    (x : Shelf A) × Contains hand x × (x.number ≡ n)
    × MarksRoseOften k (marks_of (meant n)) (marks_of (meaning x.archive))

-- The frame of an archive of a group, which began with this table and has this log. Each block that
-- is seen of it, in whatever slot, its number meant to stand there, or an entry of the log put it
-- there; each that it ever held its number had meant to be among those, or an entry put it there;
-- and each sum that it ever heard its number meant, or it is that of a relay as the log has it. In
-- each slot in which its number meant a block, a block is seen still, unless a write into that slot
-- failed, as an entry tells, or its count of losses rose.
pub record IsArchiveFramed (first : Table) (log : List Entry) (tried : Tries) (s : Shelves) (n : ℕ)
    (m : Meaning) (givens : List (List ℕ)) : Type 0 where
  pub held : (slot : ℕ) (block : List ℕ) → slot < 2 ^ 32 → s.held n slot ≡ Some block
      → (m.held slot ≡ Some block) ⊎ WrittenBy tried 0 first log n slot block
  pub history : (block : List ℕ) → Contains (s.history n) block
      → Contains m.history block ⊎ ((slot : ℕ) × WrittenBy tried 0 first log n slot block)
  pub heard : (x : Sum) → Contains (s.heard n) x
      → Contains m.heard x ⊎ FoldedBy first [] log givens n x
  pub kept : (slot : ℕ) (block : List ℕ) → slot < 2 ^ 32 → m.held slot ≡ Some block
      → ((b : List ℕ) × (s.held n slot ≡ Some b))
      ⊎ (FailedBy first log n slot ⊎ Rose m.losses (s.losses n))

-- of each archive that it has had, with one list of the blocks given at the entries
pub record AreWithin (meant : ℕ → Meaning) (g : GroupView) : Type 0 where
  pub givens : List (List ℕ)
  pub are : g.blinds ≡ blinds_in g.log givens
  pub fly : FlyBy g.first [] g.log givens g.flights
  pub each : (n : ℕ) → Contains (had_by g) n
      → IsArchiveFramed g.first g.log g.tried g.shelves n (meant n) givens

-- A group that began with this table, and ended with this log and a table that is written so. It
-- keeps what a group keeps: its log leads from the first table to the last, its stripes keep their
-- law over the blocks that its archives hold, and the log names no more faults and losses than
-- these counted since they were taken. Its archives are those of the first table and those that its
-- log brought: each was taken as its number meant, and so were its marks; what it holds now, ever
-- held and ever heard is within that and what the log says; and `Has` tells what each of them is.
pub record LeavesGroup (told : Type 0) (meant : ℕ → Meaning) (Has : Shelves → ℕ → Type 0)
    (read : Table) (log : List Entry) (written : Table) : Type 0 where
  pub view : GroupView
  pub first : view.first ≡ read
  pub is_log : view.log ≡ log
  pub is : written ≡ still view.table
  pub settled : IsSettled told view
  pub marked : told → HasMarks meant view
  pub taken : told → HasTaken meant view
  pub within : told → AreWithin meant view
  pub execution : told → HasExecution view
  pub archives : (n : ℕ) → Contains (had_by view) n → Has view.shelves n

-- each group so
pub record LeaveGroups (told : Type 0) (meant : ℕ → Meaning) (Has : Shelves → ℕ → Type 0)
    (read : List Table) (logs : List (List Entry)) (written : List Table) : Type 0 where
  pub count : length written ≡ length read
  pub count_logs : length logs ≡ length read
  pub each : (g : ℕ) (t u : Table) (log : List Entry) → slice_get read g ≡ Some t
      → slice_get written g ≡ Some u → slice_get logs g ≡ Some log
      → LeavesGroup told meant Has t log u

-- the log of the index, which is of these entries with what they brought, leads from the records
-- read to those written
pub record LeavesRecords (rack : Rack) (read : List Record) (story : List Logged)
    (log : List IndexEntry) (written : List Record) : Type 0 where
  pub ended : Names
  pub is_log : log ≡ entries story
  pub replays : names.ReplaysIndex rack (names_read read) story ended
  pub is : written ≡ ended.published

-- each group's log is what stood before this section and what this section added
abbrev pub AreLogs : List (List Entry) → Section → Type 0
AreLogs logs w =
    (g : ℕ) (log : List Entry) → slice_get logs g ≡ Some log → log ≡ w.before g ++ w.added g

-- what stood in each log before a section is what the opening of its table logged
abbrev pub AreOpened : (ℕ → Meaning) → (ℕ → Type 0) → (ℕ → ℕ → Type 0) → List Table → Section
    → Type 0
AreOpened meant Rises Often read w =
    (g : ℕ) (t : Table) → slice_get read g ≡ Some t → IsOpened meant Rises Often t (w.before g)

-- such a Put at this place stands in the log of its group
abbrev pub IsPutAt : List (List Entry) → Place → Type 0
IsPutAt logs p =
    (log : List Entry) × (slice_get logs p.group ≡ Some log)
    × ((job : ℕ) × (d : Digest) × (e : Entry) × IsKeptPut job p.stripe p.column d e
    × Contains log e)

-- The logs have a Put at each place of the current split of each record that came to the index. One
-- that was published has no other split.
pub record AreRecordsPut (logs : List (List Entry)) (story : List Logged) : Type 0 where
  pub puts : (r : Record) → Publishes story r → (b : ℕ) (p : Place)
      → slice_get r.places b ≡ Some p → IsPutAt logs p
  pub once : AreFirstSplits story

-- What a vault leaves whose passes knew and know this: nobody else logged anything meanwhile, and
-- its logs are what the passes saw. That of the index has no more entries than a log may have, and
-- what came to the index was put.
pub record LeavesLogs (old new : Known) (rack : Rack) (logs : List (List Entry))
    (log : List IndexEntry) (written : List Record) : Type 0 where
  pub sole : AllOnlyWriters old new
  pub are_logs : AreLogs logs (section_of old new)
  pub records : LeavesRecords rack (records_read new.index) (section_of old new).index_added log
      written
  pub few : length log ≤ log_bound
  pub put : AreRecordsPut logs (section_of old new).index_added
