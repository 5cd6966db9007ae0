-- The bytes of an image of the second format.
use Rattle.std.specs.Prelude.{ℕ, ◌+◌, ◌<◌, ◌^◌, All, Bool, if◌then◌else◌, Some, None, List, [], ◌∷◌}
use Rattle.std.specs.Prelude.{◌++◌, length, flat_map}
use Rattle.byteorder.specs.Endian.{big_bytes}
use Rattle.pot_bytes.specs.Digests.{digest_bytes}
use Rattle.pot_bytes.specs.declared.rack.Rack.{Rack}
use Rattle.pot_machine.specs.declared.slot.SlotState.{SlotState}
use Rattle.pot_machine.specs.declared.slot.SlotState.TheVariants.{Void, Live, Lost, Broken}
use Rattle.pot_machine.specs.declared.column.Column.{Column}
use Rattle.pot_machine.specs.declared.cursor.Cursor.{Cursor}
use Rattle.pot_machine.specs.declared.entry.Entry.{Entry}
use Rattle.pot_machine.specs.declared.entry.Entry.TheVariants.{Put, Skip, Seen, Gone, Broke, Fault}
use Rattle.pot_machine.specs.declared.entry.Entry.TheVariants.{Begin, Hop, Mended, GaveUp, Oddly}
use Rattle.pot_machine.specs.declared.entry.Entry.TheVariants.{Stuck, MoveBegin, Moved, MoveEnd}
use Rattle.pot_machine.specs.declared.entry.Entry.TheVariants.{Swapped, Counted, Put2}
use Rattle.pot_machine.specs.Table.{Table}
use Rattle.pot_index.specs.declared.entry.IndexEntry.{IndexEntry}
use Rattle.pot_index.specs.declared.entry.IndexEntry.TheVariants.{Reserve, Taken, Publish, Abandon}
use Rattle.pot_index.specs.declared.entry.IndexEntry.TheVariants.{Find, Listed, Renew, Often}
use Rattle.pot_index.specs.Records.{name_bytes, geometry_bytes, record_bytes}
use Rattle.pot_image.specs.declared.image.Image.{Image}
use Rattle.pot_image.specs.Images.{Contents, magic}

-- a byte of 0 or 1
abbrev pub flag_bytes : Bool → List ℕ
flag_bytes b = (if b then 1 else 0) ∷ []

-- the session, the groups, the data columns, the geometry, the parity columns, a zero and the
-- stripes
abbrev pub head_bytes : ℕ → Rack → List ℕ
head_bytes session r =
    big_bytes 4 session ++ (r.groups ∷ r.columns ∷ []) ++ geometry_bytes r.geometry
    ++ (r.parity ∷ 0 ∷ []) ++ big_bytes 4 r.stripes

abbrev pub cursor_bytes : Cursor → List ℕ
cursor_bytes c = big_bytes 4 c.stripe ++ (c.column ∷ 0 ∷ 0 ∷ 0 ∷ [])

-- whether a column moves, three zeros, and where it moves to, or zeros
abbrev pub move_bytes : Column → List ℕ
move_bytes c =
    elim c.moving [
      | None ↦ (0 ∷ 0 ∷ 0 ∷ 0 ∷ []) ++ big_bytes 4 0
          ++ big_bytes 4 0
      | Some m ↦ (1 ∷ 0 ∷ 0 ∷ 0 ∷ []) ++ big_bytes 4 m.to ++ big_bytes 4 m.upto
    ]

abbrev pub column_bytes : Column → List ℕ
column_bytes c = big_bytes 4 c.home ++ move_bytes c

abbrev pub slot_bytes : SlotState → List ℕ
slot_bytes Void = 0 ∷ []
slot_bytes (Live d) = 1 ∷ d.bytes
slot_bytes (Lost d) = 2 ∷ d.bytes
slot_bytes (Broken d) = 3 ∷ d.bytes

-- the cursor, the columns and the slots; a table's relays are not written
unfoldable pub table_bytes : Table → List ℕ
table_bytes t =
    cursor_bytes t.cursor ++ flat_map column_bytes t.columns ++ flat_map slot_bytes t.slots

-- a kind and a job
abbrev pub lead_bytes : ℕ → ℕ → List ℕ
lead_bytes kind job = kind ∷ [] ++ big_bytes 4 job

abbrev pub place_bytes : ℕ → ℕ → List ℕ
place_bytes s c = big_bytes 4 s ++ c ∷ []

unfoldable pub entry_bytes : Entry → List ℕ
entry_bytes (Put job s c d p kept) =
    lead_bytes 1 job ++ place_bytes s c ++ d.bytes ++ p.bytes ++ flag_bytes kept
entry_bytes (Skip job s) = lead_bytes 2 job ++ big_bytes 4 s
entry_bytes (Seen job s c) = lead_bytes 3 job ++ place_bytes s c
entry_bytes (Gone job s c) = lead_bytes 4 job ++ place_bytes s c
entry_bytes (Broke job s c) = lead_bytes 5 job ++ place_bytes s c
entry_bytes (Fault job s c) = lead_bytes 6 job ++ place_bytes s c
entry_bytes (Begin job s c) = lead_bytes 7 job ++ place_bytes s c
entry_bytes (Hop job s c) = lead_bytes 8 job ++ place_bytes s c
entry_bytes (Mended job s c) = lead_bytes 9 job ++ place_bytes s c
entry_bytes (GaveUp job s c other) = lead_bytes 10 job ++ place_bytes s c ++ other ∷ []
entry_bytes (Oddly job s c found) = lead_bytes 11 job ++ place_bytes s c ++ found.bytes
entry_bytes (Stuck job s c other) = lead_bytes 12 job ++ place_bytes s c ++ other ∷ []
entry_bytes (MoveBegin job c to) = lead_bytes 13 job ++ (c ∷ []) ++ big_bytes 4 to
entry_bytes (Moved job s c copied) = lead_bytes 14 job ++ place_bytes s c ++ flag_bytes copied
entry_bytes (MoveEnd job c) = lead_bytes 15 job ++ c ∷ []
entry_bytes (Swapped job c to) = lead_bytes 16 job ++ (c ∷ []) ++ big_bytes 4 to
entry_bytes (Counted job) = lead_bytes 17 job
entry_bytes (Put2 job s c d p q kept kept2) =
    lead_bytes 18 job ++ place_bytes s c ++ d.bytes ++ p.bytes ++ q.bytes ++ flag_bytes kept
    ++ flag_bytes kept2

unfoldable pub index_entry_bytes : IndexEntry → List ℕ
index_entry_bytes (Reserve job x) = lead_bytes 1 job ++ name_bytes x
index_entry_bytes (Taken job x) = lead_bytes 2 job ++ name_bytes x
index_entry_bytes (Publish job x mark) = lead_bytes 3 job ++ name_bytes x ++ mark.bytes
index_entry_bytes (Abandon job x) = lead_bytes 4 job ++ name_bytes x
index_entry_bytes (Find job x found) = lead_bytes 5 job ++ name_bytes x ++ flag_bytes found
index_entry_bytes (Listed job) = lead_bytes 6 job
index_entry_bytes (Renew job x mark) = lead_bytes 7 job ++ name_bytes x ++ mark.bytes
index_entry_bytes (Often job x) = lead_bytes 8 job ++ name_bytes x

-- the number of some values in four bytes, and their bytes
abbrev pub counted_bytes : {X : Type 0} → (X → List ℕ) → List X → List ℕ
counted_bytes bytes xs = big_bytes 4 (length xs) ++ flat_map bytes xs

-- the fields of an image, in order
unfoldable pub field_bytes : Contents → List ℕ
field_bytes v =
    head_bytes v.session v.rack ++ flat_map table_bytes v.tables
    ++ counted_bytes record_bytes v.records
    ++ flat_map (counted_bytes entry_bytes) v.group_logs
    ++ counted_bytes index_entry_bytes v.index_log

-- `PSI1`, the number of the format, the number of all bytes, and the fields
unfoldable pub text_bytes : Contents → List ℕ
text_bytes v = magic ++ big_bytes 4 2 ++ big_bytes 8 (48 + length (field_bytes v)) ++ field_bytes v

-- the text and its digest
unfoldable pub image_bytes : Contents → List ℕ
image_bytes v = text_bytes v ++ digest_bytes (text_bytes v)

-- fewer than 2^32 records, and as few entries in each log
pub record IsCountable (i : Image) : Type 0 where
  pub records : length i.records.items < 2 ^ 32
  pub logs : All (λ v. length v.items < 2 ^ 32) i.group_logs.items
  pub index_log : length i.index_log.items < 2 ^ 32
