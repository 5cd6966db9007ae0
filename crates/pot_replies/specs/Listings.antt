-- The replies that say that the index log is full, and those to `list` and `status`.
use Rattle.std.specs.Prelude.{◌≡◌, ◌<◌, ◌≤◌, ℕ, ◌+◌, List, [], ◌∷◌, ◌++◌, length, map, count_by}
use Rattle.std.specs.Prelude.{slice_get, Some}
use Rattle.pot_bytes.specs.Rack.{log_bound}
use Rattle.pot_machine.specs.declared.entry.Entry.{Entry}
use Rattle.pot_machine.specs.declared.entry.Entry.TheVariants.{Counted}
use Rattle.pot_machine.specs.Slot.{is_live, is_lost, is_broken}
use Rattle.pot_machine.specs.Table.{Table}
use Rattle.pot_machine.specs.Logs.{own, replayed}
use Rattle.pot_object.specs.Pieces.{longest}
use Rattle.pot_index.specs.declared.entry.IndexEntry.TheVariants.{Listed}
use Rattle.pot_index.specs.declared.entry.Logged.{Logged}
use Rattle.pot_index.specs.declared.listed.Listed as listed
use Rattle.pot_index.specs.Entries.{plain}
use Rattle.pot_index.specs.Index.{names_read}
use Rattle.pot_index.specs.Calls.{listed_of}
use Rattle.pot_replies.specs.Sections.{Section, mine, LogPoint, IndexMoment, NoneInGroups, IsSilent}
use Rattle.pot_replies.specs.Sections.{names_after}
use Rattle.pot_replies.specs.Settings.{Setting}

-- `logfull index`: the job logged nothing, and at the moment the index log had no room for `n` more
-- entries beside those that it owes to the reserved names. A store asks for 2, and a fetch and a
-- list for 1.
pub record IsIndexFull (s : Setting) (n job : ℕ) (w : Section) : Type 0 where
  pub silent : IsSilent (mine job w)
  pub log : List Logged
  pub moment : IndexMoment job w.index_before w.index_added log
  pub full : log_bound < (length log + length (names_after (names_read s.read) log).reserved) + n

-- the same of a store, whose file is not too long
abbrev pub IsStoreIndexFull : Setting → ℕ → ℕ → Section → Type 0
IsStoreIndexFull s size job w = (size ≤ longest) × IsIndexFull s 2 job w

-- `names`: the published names at the Listed entry, in order, each with the length of its file
pub record AreNamesListed (s : Setting) (job : ℕ) (names : List listed.Listed)
    (w : Section) : Type 0 where
  pub groups : NoneInGroups (mine job w)
  pub index : (mine job w).index ≡ plain (Listed job) ∷ []
  pub sofar : List Logged
  pub later : List Logged
  pub at : w.index_added ≡ sofar ++ plain (Listed job) ∷ later
  pub are : names
      ≡ map listed_of (names_after (names_read s.read) (w.index_before ++ sofar)).published

-- what the line of a group says of its table
pub record GroupCounts : Type 0 where
  pub live : ℕ
  pub lost : ℕ
  pub broken : ℕ
  pub stripe : ℕ
  pub column : ℕ

-- the slots of each kind, and the cursor
abbrev pub counts_of : Table → GroupCounts
counts_of t =
    record {
      live = count_by is_live t.slots;
      lost = count_by is_lost t.slots;
      broken = count_by is_broken t.slots;
      stripe = t.cursor.stripe;
      column = t.cursor.column;
    }

-- the line of a group: its counts at the Counted entry
pub record IsGroupCounted (s : Setting) (job g : ℕ) (counts : GroupCounts) (w : Section) : Type 0 where
  pub own_is : own job (w.added g) ≡ Counted job ∷ []
  pub sofar : List Entry
  pub later : List Entry
  pub at : w.added g ≡ sofar ++ Counted job ∷ later
  pub are : counts ≡ counts_of (replayed (s.first g) (w.before g ++ sofar))

-- or its log was full when it came to it
pub record IsUncounted (job g : ℕ) (w : Section) : Type 0 where
  pub none : own job (w.added g) ≡ []
  pub log : List Entry
  pub moment : LogPoint job (w.before g) (w.added g) log
  pub full : length log ≡ log_bound

pub data StatusLine : Type 0 where
  Group : (counts : GroupCounts) → StatusLine
  GroupFull : StatusLine

abbrev pub IsStatusLine : Setting → ℕ → ℕ → StatusLine → Section → Type 0
IsStatusLine s job g (Group counts) w = IsGroupCounted s job g counts w
IsStatusLine s job g GroupFull w = IsUncounted job g w

-- `status`: a line for each group, in order
pub record IsStatus (s : Setting) (job : ℕ) (lines : List StatusLine) (w : Section) : Type 0 where
  pub index : (mine job w).index ≡ []
  pub count : length lines ≡ s.rack.groups
  pub each : (g : ℕ) (line : StatusLine) → slice_get lines g ≡ Some line
      → IsStatusLine s job g line w
  pub elsewhere : (g : ℕ) → s.rack.groups ≤ g → own job (w.added g) ≡ []
