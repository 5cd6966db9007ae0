-- What a job did with the passes of a vault, and the section of the logs that it made.
use Rattle.std.specs.Prelude.{◌≡◌, ◌<◌, ◌++◌, ℕ, Bool, List, [], ◌∷◌, Option, Some, IfSome, length}
use Rattle.std.specs.Prelude.{filter}
use Rattle.pot_bytes.specs.declared.rack.Rack.{Rack}
use Rattle.pot_machine.specs.declared.entry.Entry.{Entry}
use Rattle.pot_machine.specs.declared.entry.Entry.TheVariants.{Begin}
use Rattle.pot_machine.specs.Logs.{is_of, own}
use Rattle.pot_index.specs.Entries as index
use Rattle.pot_worked.specs.WroteOnlyFor.{added}
use Rattle.pot_rows.specs.Rows.{view_at}
use Rattle.pot_rows.specs.Works.{RowWroteOnlyFor, RowOnlyWriterOf}
use Rattle.pot_shared.specs.declared.member.Logged.{Logged}
use Rattle.pot_shared.specs.Members.{entries_of}
use Rattle.pot_shared.specs.Ready.{GroupPasses}
use Rattle.pot_shared.specs.Catalogs.{IndexPasses}
use Rattle.pot_replies.specs.Sections.{Section}
use Rattle.pot_replies.specs.Settings.{Setting}

-- whether an entry of a group is the job's
abbrev pub of_job : ℕ → Logged → Bool
of_job job l = is_of job l.entry

-- what the log of each group gained
abbrev pub gained : GroupPasses → GroupPasses → ℕ → List Entry
gained old new g = entries_of (added (view_at old g) (view_at new g))

-- the blind of the relay that an entry began, if it began one
abbrev pub blind_with : Option (List ℕ) → Entry → List (List ℕ)
blind_with (Some blind) (Begin job s c) = blind ∷ []
blind_with _ _ = []

-- the blinds of the relays that entries began, in order
abbrev pub blinds_in : List Logged → List (List ℕ)
blinds_in [] = []
blinds_in (l ∷ log) = blind_with l.blind l.entry ++ blinds_in log

-- those of the relays that the job began, of what the log of a group gained
abbrev pub blinds_by : ℕ → GroupPasses → GroupPasses → ℕ → List (List ℕ)
blinds_by job old new g =
    blinds_in (filter (of_job job) (added (view_at old g) (view_at new g)))

-- The passes saw more and logged nothing: that is work of any job, and of one that nobody else
-- worked for, no entry came.
pub record OnlySaw (old new : GroupPasses) : Type 0 where
  pub worked : (job : ℕ) → RowWroteOnlyFor (of_job job) old new
  pub none : (job : ℕ) → RowOnlyWriterOf (of_job job) old new → (g : ℕ) → own job (gained old new g) ≡ []

-- what the passes of all turns know
pub record Known : Type 0 where
  pub groups : GroupPasses
  pub index : IndexPasses

abbrev pub known : GroupPasses → IndexPasses → Known
known groups index = record { groups = groups; index = index }

-- The passes worked for the job, and for no other.
pub record JobWroteOnly (job : ℕ) (old new : Known) : Type 0 where
  pub groups : RowWroteOnlyFor (of_job job) old.groups new.groups
  pub index : RowWroteOnlyFor (index.is_of job) old.index new.index

-- Nobody else logged an entry of the job meanwhile.
pub record JobOnlyWriter (job : ℕ) (old new : Known) : Type 0 where
  pub groups : RowOnlyWriterOf (of_job job) old.groups new.groups
  pub index : RowOnlyWriterOf (index.is_of job) old.index new.index

-- the logs that the passes had seen, and what these gained
abbrev pub section_of : Known → Known → Section
section_of old new = record {
  before = λ g. entries_of (view_at old.groups g).seen;
  added = gained old.groups new.groups;
  index_before = (view_at old.index 0).seen;
  index_added = added (view_at old.index 0) (view_at new.index 0);
}

-- The rack of a session, the tables that its groups read, and the records that its index read.
pub record IsSettingOf (s : Setting) (rack : Rack) (k : Known) : Type 0 where
  pub rack_is : s.rack ≡ rack
  pub first : (g : ℕ) → g < length k.groups.names
      → IfSome (view_at k.groups g).origin (λ o. s.first g ≡ o.first)
  pub read : IfSome (view_at k.index 0).origin (λ o. s.read ≡ o.read)
