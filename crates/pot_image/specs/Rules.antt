-- The rules of what stands in an image, by what they say of its values.
use Rattle.std.specs.Prelude.{◌≡◌, ◌<◌, ◌≤◌, ◌+◌, ◌^◌, ℕ, false, nat_eq, Some, List, [], length}
use Rattle.std.specs.Prelude.{slice_get, All, flat_map}
use Rattle.std.specs.List.{IsDistinct}
use Rattle.pot_bytes.specs.declared.digest.Digest.{Digest}
use Rattle.pot_bytes.specs.declared.rack.Place.{Place}
use Rattle.pot_bytes.specs.declared.rack.Rack.{Rack}
use Rattle.pot_machine.specs.declared.slot.SlotState.{SlotState}
use Rattle.pot_machine.specs.declared.slot.SlotState.TheVariants.{Void, Live, Lost, Broken}
use Rattle.pot_machine.specs.Slot.{is_void}
use Rattle.pot_machine.specs.Table.{Table, slot_at}
use Rattle.pot_machine.specs.Rules.{IsTable}
use Rattle.pot_bytes.specs.Names.{IsName}
use Rattle.pot_bytes.specs.Rack.{IsRack, log_bound}
use Rattle.pot_machine.specs.declared.entry.Entry.{Entry}
use Rattle.pot_machine.specs.declared.entry.Entry.TheVariants.{Put, Skip, Seen, Gone, Broke, Fault}
use Rattle.pot_machine.specs.declared.entry.Entry.TheVariants.{Begin, Hop, Mended, GaveUp, Oddly}
use Rattle.pot_machine.specs.declared.entry.Entry.TheVariants.{Stuck, MoveBegin, Moved, MoveEnd}
use Rattle.pot_machine.specs.declared.entry.Entry.TheVariants.{Swapped, Counted, Put2}
use Rattle.pot_index.specs.declared.entry.IndexEntry.{IndexEntry}
use Rattle.pot_index.specs.declared.entry.IndexEntry.TheVariants.{Reserve, Taken, Publish, Abandon}
use Rattle.pot_index.specs.declared.entry.IndexEntry.TheVariants.{Find, Listed, Renew, Often}
use Rattle.pot_index.specs.declared.record.Record.{Record}
use Rattle.pot_index.specs.Records.{splits_of}
use Rattle.pot_index.specs.Index.{AreFirstRecords}
use Rattle.pot_machine.specs.Table.{archives_in}
use Rattle.pot_image.specs.Images.{Contents}
use Rattle.pot_image.specs.Spelling.{image_bytes}

-- a digest has 32 bytes
abbrev pub IsDigest : Digest → Type 0
IsDigest d = length d.bytes ≡ 32

abbrev pub HasSlotDigest : SlotState → Type 0
HasSlotDigest Void = Unit {0}
HasSlotDigest (Live d) = IsDigest d
HasSlotDigest (Lost d) = IsDigest d
HasSlotDigest (Broken d) = IsDigest d

-- WHAT GROUPS AND AN INDEX BEGIN WITH

-- the numbers are those of archives, at most 511, and all distinct
pub record AreArchives (numbers : List ℕ) : Type 0 where
  pub within : All (λ n. n ≤ 511) numbers
  pub distinct : IsDistinct nat_eq numbers

-- a table of a group of this rack, without relays
pub record FitsTable (rack : Rack) (t : Table) : Type 0 where
  pub rules : IsTable t
  pub data_columns : t.data_columns ≡ rack.columns
  pub parity : t.parity ≡ rack.parity
  pub stripes : t.stripes ≡ rack.stripes
  pub relays : t.relays ≡ []

-- a table for each group of this rack, and the homes and targets of all their columns are distinct
-- archives
pub record AreTables (rack : Rack) (ts : List Table) : Type 0 where
  pub count : length ts ≡ rack.groups
  pub fits : All (FitsTable rack) ts
  pub archives : AreArchives (flat_map archives_in ts)

-- the slot of a place, in the table of its group, is not Void
pub record IsFilled (ts : List Table) (p : Place) : Type 0 where
  pub table : Table
  pub group : slice_get ts p.group ≡ Some table
  pub slot : is_void (slot_at table p.stripe p.column) ≡ false

-- a record of a name, with a whole digest, and in none of its splits a place whose slot is Void
pub record IsRecordOver (ts : List Table) (r : Record) : Type 0 where
  pub name : IsName r.name
  pub digest : IsDigest r.digest
  pub filled : All (λ s. All (IsFilled ts) s.places) (splits_of r)

-- records with which an index over this rack may begin, each of them over these tables
pub record AreRecords (rack : Rack) (ts : List Table) (rs : List Record) : Type 0 where
  pub read : AreFirstRecords rack rs
  pub each : All (IsRecordOver ts) rs

-- the parts fit together: a rack within its limits, the tables of its groups, records over them,
-- and a log for each group
pub record FitsTogether (v : Contents) : Type 0 where
  pub rack : IsRack v.rack
  pub tables : AreTables v.rack v.tables
  pub records : AreRecords v.rack v.tables v.records
  pub logs : length v.group_logs ≡ v.rack.groups

-- WHAT AN IMAGE MAY HOLD

-- the table's slots have whole digests
abbrev pub HaveDigests : Table → Type 0
HaveDigests t = All HasSlotDigest t.slots

-- a job's number has four bytes
abbrev pub IsJob : ℕ → Type 0
IsJob job = job < 2 ^ 32

-- a stripe and a column that the rack has
abbrev pub IsSpotOf : Rack → ℕ → ℕ → Type 0
IsSpotOf rack s c = (s < rack.stripes) × (c < rack.columns + rack.parity)

-- a column that the rack has, and the number of an archive
abbrev pub IsMove : Rack → ℕ → ℕ → Type 0
IsMove rack c to = (c < rack.columns + rack.parity) × (to ≤ 511)

-- what an entry of a group's log names, the rack has
abbrev pub FitsEntry : Rack → Entry → Type 0
FitsEntry rack (Put job s c d p kept) = IsJob job × (IsSpotOf rack s c × (IsDigest d × IsDigest p))
FitsEntry rack (Skip job s) = IsJob job × (s < rack.stripes)
FitsEntry rack (Seen job s c) = IsJob job × IsSpotOf rack s c
FitsEntry rack (Gone job s c) = IsJob job × IsSpotOf rack s c
FitsEntry rack (Broke job s c) = IsJob job × IsSpotOf rack s c
FitsEntry rack (Fault job s c) = IsJob job × IsSpotOf rack s c
FitsEntry rack (Begin job s c) = IsJob job × IsSpotOf rack s c
FitsEntry rack (Hop job s c) = IsJob job × IsSpotOf rack s c
FitsEntry rack (Mended job s c) = IsJob job × IsSpotOf rack s c
FitsEntry rack (GaveUp job s c other) =
    IsJob job × (IsSpotOf rack s c × (other < rack.columns + rack.parity))
FitsEntry rack (Oddly job s c found) = IsJob job × (IsSpotOf rack s c × IsDigest found)
FitsEntry rack (Stuck job s c other) =
    IsJob job × (IsSpotOf rack s c × (other < rack.columns + rack.parity))
FitsEntry rack (MoveBegin job c to) = IsJob job × IsMove rack c to
FitsEntry rack (Moved job s c copied) = IsJob job × IsSpotOf rack s c
FitsEntry rack (MoveEnd job c) = IsJob job × (c < rack.columns + rack.parity)
FitsEntry rack (Swapped job c to) = IsJob job × IsMove rack c to
FitsEntry rack (Counted job) = IsJob job
FitsEntry rack (Put2 job s c d p q kept kept2) =
    IsJob job × (IsSpotOf rack s c × (IsDigest d × (IsDigest p × IsDigest q)))

-- an entry of the index's log is of a name, and its mark is whole
abbrev pub FitsIndexEntry : IndexEntry → Type 0
FitsIndexEntry (Reserve job x) = IsJob job × IsName x
FitsIndexEntry (Taken job x) = IsJob job × IsName x
FitsIndexEntry (Publish job x mark) = IsJob job × (IsName x × IsDigest mark)
FitsIndexEntry (Abandon job x) = IsJob job × IsName x
FitsIndexEntry (Find job x found) = IsJob job × IsName x
FitsIndexEntry (Listed job) = IsJob job
FitsIndexEntry (Renew job x mark) = IsJob job × (IsName x × IsDigest mark)
FitsIndexEntry (Often job x) = IsJob job × IsName x

-- WHAT IS WHOLE OF AN IMAGE THAT WAS WRITTEN

-- the job of an entry of a group's log has four bytes, and its digests are whole
abbrev pub IsWholeEntry : Entry → Type 0
IsWholeEntry (Put job s c d p kept) = IsJob job × (IsDigest d × IsDigest p)
IsWholeEntry (Skip job s) = IsJob job
IsWholeEntry (Seen job s c) = IsJob job
IsWholeEntry (Gone job s c) = IsJob job
IsWholeEntry (Broke job s c) = IsJob job
IsWholeEntry (Fault job s c) = IsJob job
IsWholeEntry (Begin job s c) = IsJob job
IsWholeEntry (Hop job s c) = IsJob job
IsWholeEntry (Mended job s c) = IsJob job
IsWholeEntry (GaveUp job s c other) = IsJob job
IsWholeEntry (Oddly job s c found) = IsJob job × IsDigest found
IsWholeEntry (Stuck job s c other) = IsJob job
IsWholeEntry (MoveBegin job c to) = IsJob job
IsWholeEntry (Moved job s c copied) = IsJob job
IsWholeEntry (MoveEnd job c) = IsJob job
IsWholeEntry (Swapped job c to) = IsJob job
IsWholeEntry (Counted job) = IsJob job
IsWholeEntry (Put2 job s c d p q kept kept2) =
    IsJob job × (IsDigest d × (IsDigest p × IsDigest q))

-- a record of a name, with a whole digest
abbrev pub IsWholeRecord : Record → Type 0
IsWholeRecord r = IsName r.name × IsDigest r.digest

-- the session and the jobs have four bytes, digests are whole, and names are names
pub record HasValues (v : Contents) : Type 0 where
  pub session : v.session < 2 ^ 32
  pub digests : All HaveDigests v.tables
  pub records : All IsWholeRecord v.records
  pub group_logs : All (All IsWholeEntry) v.group_logs
  pub index_log : All FitsIndexEntry v.index_log

-- So it is, and the bytes are fewer than 2^64. This holds of each image that was written, whatever
-- else it holds.
pub record IsImageWhole (v : Contents) : Type 0 where
  pub values : HasValues v
  pub short : length (image_bytes v) < 2 ^ 64

-- at most 262,144 values that fit
pub record IsLog {X : Type 0} (Fits : X → Type 0) (xs : List X) : Type 0 where
  pub count : length xs ≤ log_bound
  pub fits : All Fits xs

-- what an image may hold: a session whose number has four bytes, parts that fit together, whole
-- digests, and logs of entries that fit. Its bytes are fewer than 2^64
pub record IsImage (v : Contents) : Type 0 where
  pub session : v.session < 2 ^ 32
  pub together : FitsTogether v
  pub digests : All HaveDigests v.tables
  pub group_logs : All (IsLog (FitsEntry v.rack)) v.group_logs
  pub index_log : IsLog FitsIndexEntry v.index_log
  pub short : length (image_bytes v) < 2 ^ 64
