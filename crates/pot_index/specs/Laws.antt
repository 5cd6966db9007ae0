-- The laws of an index's log.
use Rattle.std.specs.Prelude.{◌≡◌, ◌≤◌, ℕ, ◌+◌, List, [], ◌∷◌, ◌++◌, All, Contains, length}
use Rattle.pot_bytes.specs.declared.rack.Rack.{Rack}
use Rattle.pot_index.specs.declared.entry.IndexEntry.{IndexEntry}
use Rattle.pot_index.specs.declared.entry.Logged.{Logged}
use Rattle.pot_index.specs.declared.record.Record.{Record}
use Rattle.pot_index.specs.declared.record.Split.{Split}
use Rattle.pot_index.specs.Entries.{IsReserving, IsEnding, IsPublishing, IsRenewing, entries}
use Rattle.pot_index.specs.Entries.{reserved_in}
use Rattle.pot_index.specs.Records.{splits_of}
use Rattle.pot_index.specs.Index.{Names, IsPublished, IsReservedBy, AreNames, LegalLogged, ReplaysIndex, after}

-- legal entries keep the names distinct, the published ones ascending, and the records within the
-- rack
abbrev pub NamesKept : Type 0
NamesKept =
    (rack : Rack) (n m : Names) (log : List Logged) → AreNames rack n → ReplaysIndex rack n log m
    → AreNames rack m

-- a log goes on by an entry that is legal at its end
abbrev pub IndexLogsGoOn : Type 0
IndexLogsGoOn =
    (rack : Rack) (n m : Names) (log : List Logged) (x : Logged) → ReplaysIndex rack n log m
    → LegalLogged rack m x → ReplaysIndex rack n (log ++ x ∷ []) (after m x)

-- and only so: a front of it leads to names from which the rest goes on
abbrev pub IndexLogsWentOn : Type 0
IndexLogsWentOn =
    (rack : Rack) (n k : Names) (log more : List Logged) → ReplaysIndex rack n (log ++ more) k
    → (m : Names) × ReplaysIndex rack n log m × ReplaysIndex rack m more k

-- a log leads to one end
abbrev pub IndexLogsLeadOnce : Type 0
IndexLogsLeadOnce =
    (rack : Rack) (n m k : Names) (log : List Logged) → ReplaysIndex rack n log m → ReplaysIndex rack n log k
    → m ≡ k

-- a name that a job has reserved stays so until an entry of the job ends it
abbrev pub ReservedStays : Type 0
ReservedStays =
    (rack : Rack) (n m : Names) (log : List Logged) (job : ℕ) (name : List ℕ)
    (before : List IndexEntry) (made : IndexEntry) (behind : List IndexEntry)
    → AreNames rack n → ReplaysIndex rack n log m → entries log ≡ before ++ made ∷ behind
    → IsReserving job name made
    → All (λ e. ¬ IsEnding job name e) behind → IsReservedBy m job name

-- and is not reserved by the job from then on, until the job reserves it anew
abbrev pub EndedStays : Type 0
EndedStays =
    (rack : Rack) (n m : Names) (log : List Logged) (job : ℕ) (name : List ℕ)
    (before : List IndexEntry) (ended : IndexEntry) (behind : List IndexEntry)
    → AreNames rack n → ReplaysIndex rack n log m → entries log ≡ before ++ ended ∷ behind
    → IsEnding job name ended
    → All (λ e. ¬ IsReserving job name e) behind → ¬ IsReservedBy m job name

-- a name is published once, and never where it was published before
abbrev pub PublishedOnce : Type 0
PublishedOnce =
    (rack : Rack) (n m : Names) (log : List Logged) (name : List ℕ) (before : List IndexEntry)
    (e : IndexEntry) (behind : List IndexEntry)
    → AreNames rack n → ReplaysIndex rack n log m → entries log ≡ before ++ e ∷ behind
    → IsPublishing name e
    → (¬ IsPublished n name) × All (λ f. ¬ IsPublishing name f) before
    × All (λ f. ¬ IsPublishing name f) behind

-- a published record stays as it is where no entry renews it
abbrev pub RecordsStay : Type 0
RecordsStay =
    (rack : Rack) (n m : Names) (log : List Logged) (r : Record) → AreNames rack n
    → ReplaysIndex rack n log m → Contains n.published r
    → All (λ e. ¬ IsRenewing r.name e) (entries log) → Contains m.published r

-- in any case its file stays, and its splits, with newer ones behind them
pub record KeepsFileAndSplits (r o : Record) : Type 0 where
  pub name : o.name ≡ r.name
  pub long : o.length ≡ r.length
  pub digest : o.digest ≡ r.digest
  pub splits : (more : List Split) × (splits_of o ≡ splits_of r ++ more)

abbrev pub SplitsStay : Type 0
SplitsStay =
    (rack : Rack) (n m : Names) (log : List Logged) (r : Record) → AreNames rack n
    → ReplaysIndex rack n log m → Contains n.published r
    → (o : Record) × Contains m.published o × KeepsFileAndSplits r o

-- the entries and the reserved names together never fall
abbrev pub OwedNeverFalls : Type 0
OwedNeverFalls =
    (rack : Rack) (n m : Names) (log : List Logged) → ReplaysIndex rack n log m
    → length n.reserved ≤ length log + length m.reserved

-- how many names are reserved is told by the log, where none was at its beginning
abbrev pub CountsReserved : Type 0
CountsReserved =
    (rack : Rack) (n m : Names) (log : List Logged) → ReplaysIndex rack n log m → n.reserved ≡ []
    → length m.reserved ≡ reserved_in (entries log)

-- each entry publishes one record at most
abbrev pub FewPublished : Type 0
FewPublished =
    (rack : Rack) (n m : Names) (log : List Logged) → ReplaysIndex rack n log m
    → length m.published ≤ length n.published + length log
