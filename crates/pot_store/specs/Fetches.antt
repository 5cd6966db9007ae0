-- The answers of `fetch_file`, each as the job's own entries give it.
use Rattle.std.specs.Prelude.{◌≡◌, ◌⊎◌, ℕ, suc, false, List, None, Vec, Result, Ok, Err, Contains}
use Rattle.std.specs.Global.{Global}
use Rattle.pot_bytes.specs.declared.rack.Place.{Place}
use Rattle.pot_machine.specs.Slot.{is_void}
use Rattle.pot_machine.specs.Table.{slot_at}
use Rattle.pot_index.specs.declared.record.Record.{Record}
use Rattle.pot_replies.specs.Settings.{Setting}
use Rattle.pot_replies.specs.Sections.{Section, mine, IsSilent}
use Rattle.pot_replies.specs.Listings.{IsIndexFull}
use Rattle.pot_replies.specs.Fetches.{IsFetchAbsent, Found, FetchEntries, IsFile, IsOdd, IsLost}
use Rattle.pot_replies.specs.Fetches.{IsFetchFault, IsFetchLogFull}
use Rattle.pot_store.specs.declared.fetching.FetchFault.{FetchFault}
use Rattle.pot_store.specs.declared.fetching.FetchFault.TheVariants as fault

-- each place of a record that was read had a block in the table read
abbrev pub AreFilled : Setting → Type 0
AreFilled s =
    (r : Record) (p : Place) → Contains s.read r → Contains r.places p
    → is_void (slot_at (s.first p.group) p.stripe p.column) ≡ false

-- no memory: nothing was logged, or the record was found and some of its places were looked at
abbrev pub IsUnfinished : Setting → ℕ → List ℕ → Section → Type 0
IsUnfinished s job name w =
    IsSilent (mine job w) ⊎ ((kept : Record) × Found s job name kept w × FetchEntries kept job w)

-- What each answer says of the section. The number of a fragment counts from 1.
abbrev pub FetchRow : Setting → ℕ → List ℕ → Result (Vec ℕ Global) FetchFault → Section → Type 0
FetchRow s job name (Ok bytes) w = IsFile s job name bytes.items w
FetchRow s job name (Err fault.IndexLogFull) w = IsIndexFull s 1 job w
FetchRow s job name (Err fault.Absent) w = IsFetchAbsent job name (mine job w)
FetchRow s job name (Err (fault.Faulted group column)) w = IsFetchFault s job name group column w
FetchRow s job name (Err (fault.Lost piece fragment have need)) w =
    (j : ℕ) × (fragment ≡ suc j) × IsLost s job name piece j have need w
FetchRow s job name (Err (fault.LogFull group)) w = IsFetchLogFull s job name group w
FetchRow s job name (Err (fault.Odd wanted found)) w = IsOdd None s job name wanted found w
FetchRow s job name (Err fault.NoMemory) w = IsUnfinished s job name w
