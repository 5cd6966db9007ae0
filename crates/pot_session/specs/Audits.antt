-- An audit: how many points of each piece of each file of a desk are exposed to a coalition, and
-- how many of its blocks stand in no record.
use Rattle.std.specs.Prelude.{◌≡◌, ◌⊎◌, ◌++◌, ◌+◌, ◌==◌, ◌&&◌, ◌||◌, ℕ, Bool, true, false, not}
use Rattle.std.specs.Prelude.{nat_le, nat_lt, List, [], Option, Result, Ok, Err, All, codes}
use Rattle.std.specs.Prelude.{flat_map, if◌then◌else◌, length, map, take, IsTrue}
use Rattle.std.specs.List.{list_all, list_any}
use Rattle.pot_bytes.specs.declared.rack.Rack.{Rack}
use Rattle.pot_outside.specs.Accounts.{Transition}
use Rattle.pot_commands.specs.Streams.{Wrote}
use Rattle.pot_script.specs.Replies.{spaced}
use Rattle.pot_index.specs.declared.record.Record.{Record}
use Rattle.pot_image.specs.declared.image.Image.{Image}
use Rattle.pot_audit.specs.declared.loose.Loose.{Loose}
use Rattle.pot_audit.specs.declared.spot.Spot.{Spot}
use Rattle.pot_audit.specs.declared.veil.Veil.{Veil}
use Rattle.pot_audit.specs.Loose.{loose_columns}
use Rattle.pot_audit.specs.Veils.{AreVeils}
use Rattle.pot_words.specs.declared.audit.Audit.{Audit}
use Rattle.pot_words.specs.declared.spot.Spot as word
use Rattle.pot_words.specs.Lists.{AscendFrom, IsSpot, spot_rank}
use Rattle.pot_session.specs.declared.recovery.listing.ListFault.{ListFault}
use Rattle.pot_session.specs.declared.ending.status.Status.{Status}
use Rattle.pot_session.specs.declared.ending.status.Status.TheVariants as status
use Rattle.pot_session.specs.declared.ending.stop.Stop.{Stop}
use Rattle.pot_session.specs.declared.ending.stop.Stop.TheVariants as stop
use Rattle.pot_session.specs.Desks.{HoldsImage, IsImageStop, RefusesDesk}
use Rattle.pot_session.specs.Listing.{Began}
use Rattle.pot_session.specs.Stops.{Refuses}
use Rattle.pot_session.specs.Telling.{told_status}

-- the columns that the words name ascend
abbrev pub IsAudit : Audit → Type 0
IsAudit a = AscendFrom IsSpot spot_rank 0 a.seen.items

-- THE COALITION

-- the rack has this column
abbrev pub is_of : Rack → word.Spot → Bool
is_of rack s = nat_lt s.group rack.groups && nat_lt s.column (rack.columns + rack.parity)

abbrev pub spot_of : word.Spot → Spot
spot_of s = record { group = s.group; column = s.column }

-- the rack has all columns that the words name
abbrev pub are_of : Rack → Audit → Bool
are_of rack a = list_all (is_of rack) a.seen.items

abbrev pub spots_of : Audit → List Spot
spots_of a = map spot_of a.seen.items

-- WHAT IS TOLD

-- as many points of the piece are exposed, of each fragment, as give it back
abbrev pub is_bare : Veil → Bool
is_bare v = nat_le v.need v.have

-- the name, and the split, the piece, the fragment, how many points of it are exposed, and how many
-- are needed
abbrev pub veil_line : List ℕ → Veil → List ℕ
veil_line name v =
    codes "veil " ++ name ++ spaced v.split ++ spaced v.piece ++ spaced v.fragment ++ spaced v.have
    ++ spaced v.need ++ codes "\n"

abbrev pub veil_lines : List ℕ → List Veil → List ℕ
veil_lines name veils = flat_map (veil_line name) veils

-- a record and its veils
pub record Audited : Type 0 where
  pub kept : Record
  pub veils : List Veil

-- these are the records in order, each with its veils
pub record AreAudited (rack : Rack) (spots : List Spot) (records : List Record)
    (all : List Audited) : Type 0 where
  pub are : map (λ (a : Audited). a.kept) all ≡ records
  pub each : All (λ (a : Audited). AreVeils rack spots a.kept a.veils) all

-- a line for each split and piece of each record
abbrev pub audit_text : List Audited → List ℕ
audit_text all = flat_map (λ (a : Audited). veil_lines a.kept.name a.veils) all

-- some piece of some record is bare
abbrev pub has_bare : List Audited → Bool
has_bare all = list_any (λ (a : Audited). list_any is_bare a.veils) all

-- The lines of all records were written, and it is answered whether some piece is bare; or the sink
-- failed or memory ran out, and some first bytes were written of the lines of some first records.
abbrev pub PutsAudit : Transition (List ℕ) → Rack → List Spot → List Record → Result Bool ListFault
    → Type 0
PutsAudit sink rack spots records (Ok bare) =
    (all : List Audited) × AreAudited rack spots records all × (bare ≡ has_bare all)
    × Wrote sink (audit_text all)
PutsAudit sink rack spots records (Err e) =
    (n : ℕ) × (all : List Audited) × AreAudited rack spots (take n records) all
    × Began sink (audit_text all)

-- BLOCKS IN NO RECORD

-- the columns that have such blocks, where the words ask for them
abbrev pub loose_of : Audit → Image → List Loose
loose_of a i =
    if a.loose then loose_columns i.rack (spots_of a) i.tables.items i.records.items else []

abbrev pub are_some : List Loose → Bool
are_some columns = not (length columns == 0)

-- the group, the column, and how many of its blocks stand in no record
abbrev pub loose_line : Loose → List ℕ
loose_line x =
    codes "loose" ++ spaced x.group ++ spaced x.column ++ spaced x.count ++ codes "\n"

abbrev pub loose_lines : List Loose → List ℕ
loose_lines columns = flat_map loose_line columns

-- THE WHOLE

-- The lines of all records were written, and behind them those of these columns; and it is answered
-- whether some piece is bare, or there are such columns. Or the sink failed or memory ran out: in
-- the lines of the records, or in those of the columns behind them.
abbrev pub PutsWholeAudit : Transition (List ℕ) → Rack → List Spot → List Record → List Loose
    → Result Bool ListFault → Type 0
PutsWholeAudit sink rack spots records columns (Ok found) =
    (all : List Audited) × AreAudited rack spots records all
    × (found ≡ (has_bare all || are_some columns))
    × Wrote sink (audit_text all ++ loose_lines columns)
PutsWholeAudit sink rack spots records columns (Err e) =
    PutsAudit sink rack spots records (Err e)
    ⊎ ((all : List Audited) × AreAudited rack spots records all
    × Began sink (audit_text all ++ loose_lines columns))

-- and so the answer
abbrev pub AuditAnswers : Transition (List ℕ) → Rack → List Spot → List Record → List Loose → Status
    → Type 0
AuditAnswers sink rack spots records columns answer =
    ((found : Bool) × PutsWholeAudit sink rack spots records columns (Ok found)
    × (answer ≡ told_status found))
    ⊎ ((e : ListFault) × PutsWholeAudit sink rack spots records columns (Err e)
    × ((answer ≡ status.SinkFault) ⊎ (answer ≡ status.NoMemory)))

-- What `audit` comes to. The desk has no image; or it has one whose rack lacks a column that the
-- words name, and the words are refused; or the audit of its records is told.
pub data Audits (a : Audit) (desk : Transition (Option (List ℕ))) (sink : Transition (List ℕ))
    (answer : Status) : Type 0 where
  Stopped : (s : Stop) → IsImageStop s → (IsTrue desk.tells → RefusesDesk desk.before s)
      → Refuses sink s answer → Audits a desk sink answer
  Outside : (i : Image) → (IsTrue desk.tells → HoldsImage desk.before i) → are_of i.rack a ≡ false
      → Refuses sink stop.Words answer → Audits a desk sink answer
  Told : (i : Image) → (IsTrue desk.tells → HoldsImage desk.before i) → are_of i.rack a ≡ true
      → AuditAnswers sink i.rack (spots_of a) i.records.items (loose_of a i) answer
      → Audits a desk sink answer
