-- The calls of an index, each by its answer, between the index before and after it.
use Rattle.std.specs.Prelude.{◌≡◌, ◌<◌, ◌≤◌, ℕ, ◌+◌, true, false, List, Vec, Result, Ok, Err}
use Rattle.std.specs.Prelude.{length, map}
use Rattle.std.specs.Global.{Global}
use Rattle.pot_bytes.specs.Rack.{log_bound}
use Rattle.pot_index.specs.declared.entry.IndexEntry.TheVariants as entry
use Rattle.pot_index.specs.declared.fault.FindFault.{FindFault}
use Rattle.pot_index.specs.declared.fault.FindFault.TheVariants as find_fault
use Rattle.pot_index.specs.declared.fault.ListFault.{ListFault}
use Rattle.pot_index.specs.declared.fault.ListFault.TheVariants as list_fault
use Rattle.pot_index.specs.declared.fault.RenewFault.{RenewFault}
use Rattle.pot_index.specs.declared.fault.RenewFault.TheVariants as renew_fault
use Rattle.pot_index.specs.declared.fault.ReserveFault.{ReserveFault}
use Rattle.pot_index.specs.declared.fault.ReserveFault.TheVariants as reserve_fault
use Rattle.pot_index.specs.declared.listed.Listed.{Listed}
use Rattle.pot_index.specs.declared.record.Record.{Record}
use Rattle.pot_index.specs.declared.record.Split.{Split}
use Rattle.pot_index.specs.Records.{renewed, mark_of}
use Rattle.pot_index.specs.Entries.{plain, bringing}
use Rattle.pot_index.specs.Index.{IndexView, IsPublished, IsRecordOf, IsNameTaken, IsFree, owed, logged}

-- so many more entries are within the bound of the log, beside one for each reserved name
abbrev pub HasRoom : ℕ → IndexView → Type 0
HasRoom n s = owed s + n ≤ log_bound

-- or they are not, and nothing changed
abbrev pub IsFullIndex : ℕ → IndexView → IndexView → Type 0
IsFullIndex n s t = (log_bound < owed s + n) × (t ≡ s)

-- `reserve`: an entry for Reserve, and one for what will end it
abbrev pub Reserves : ℕ → List ℕ → IndexView → IndexView → Result (Unit {0}) ReserveFault → Type 0
Reserves job name s t (Ok u) =
    HasRoom 2 s × IsFree s.now name × (t ≡ logged s (plain (entry.Reserve job name)))
Reserves job name s t (Err reserve_fault.LogFull) = IsFullIndex 2 s t
Reserves job name s t (Err reserve_fault.Exists) =
    HasRoom 2 s × IsNameTaken s.now name × (t ≡ logged s (plain (entry.Taken job name)))
Reserves job name s t (Err reserve_fault.NoMemory) = HasRoom 2 s × IsFree s.now name × (t ≡ s)

-- `publish` and `abandon`
abbrev pub published_by : IndexView → ℕ → Record → IndexView
published_by s job r = logged s (bringing (entry.Publish job r.name (mark_of r)) r)

abbrev pub abandoned_by : IndexView → ℕ → List ℕ → IndexView
abandoned_by s job name = logged s (plain (entry.Abandon job name))

-- `find`
abbrev pub Finds : ℕ → List ℕ → IndexView → IndexView → Result Record FindFault → Type 0
Finds job name s t (Ok r) =
    HasRoom 1 s × IsRecordOf s.now name r × (t ≡ logged s (plain (entry.Find job name true)))
Finds job name s t (Err find_fault.LogFull) = IsFullIndex 1 s t
Finds job name s t (Err find_fault.Absent) =
    HasRoom 1 s × (¬ IsPublished s.now name) × (t ≡ logged s (plain (entry.Find job name false)))
Finds job name s t (Err find_fault.NoMemory) = HasRoom 1 s × IsPublished s.now name × (t ≡ s)

-- `names`
abbrev pub listed_of : Record → Listed
listed_of r = record { name = r.name; length = r.length }

abbrev pub ListsNames : ℕ → IndexView → IndexView → Result (Vec Listed Global) ListFault → Type 0
ListsNames job s t (Ok v) =
    HasRoom 1 s × (v.items ≡ map listed_of s.now.published)
    × (t ≡ logged s (plain (entry.Listed job)))
ListsNames job s t (Err list_fault.LogFull) = IsFullIndex 1 s t
ListsNames job s t (Err list_fault.NoMemory) = HasRoom 1 s × (t ≡ s)

-- `renew`, of the record that is published under the name
abbrev pub RenewsRecord : ℕ → List ℕ → Split → IndexView → IndexView → Record
    → Result (Unit {0}) RenewFault → Type 0
RenewsRecord job name split s t r (Ok u) =
    HasRoom 1 s × (length r.older < 15)
    × (t ≡ logged s (bringing (entry.Renew job name (mark_of (renewed r split))) (renewed r split)))
RenewsRecord job name split s t r (Err renew_fault.LogFull) = IsFullIndex 1 s t
RenewsRecord job name split s t r (Err renew_fault.TooOften) =
    HasRoom 1 s × (length r.older ≡ 15) × (t ≡ logged s (plain (entry.Often job name)))
RenewsRecord job name split s t r (Err renew_fault.NoMemory) =
    HasRoom 1 s × (length r.older < 15) × (t ≡ s)

abbrev pub Renews : ℕ → List ℕ → Split → IndexView → IndexView → Result (Unit {0}) RenewFault
    → Type 0
Renews job name split s t result =
    (r : Record) × IsRecordOf s.now name r × RenewsRecord job name split s t r result
