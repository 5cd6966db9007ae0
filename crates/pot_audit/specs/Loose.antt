-- Blocks that stand in no record: those of stores and renewals that were given up.
use Rattle.std.specs.Prelude.{◌≡◌, ◌<◌, ◌==◌, ◌&&◌, ◌||◌, ℕ, suc, Bool, false, not, nat_lt}
use Rattle.std.specs.Prelude.{List, [], ◌∷◌, ◌++◌, if◌then◌else◌, length, flat_map}
use Rattle.std.specs.List.{list_any, range_with_len, slice_index_or}
use Rattle.pot_bytes.specs.declared.rack.Place.{Place}
use Rattle.pot_bytes.specs.declared.rack.Rack.{Rack}
use Rattle.pot_index.specs.declared.record.Record.{Record}
use Rattle.pot_index.specs.Records.{splits_of}
use Rattle.pot_machine.specs.Slot.{is_void}
use Rattle.pot_machine.specs.Table.{Table, count, slot_at}
use Rattle.pot_audit.specs.declared.loose.Loose.{Loose}
use Rattle.pot_audit.specs.declared.spot.Spot.{Spot}
use Rattle.pot_audit.specs.Exposure.{is_exposed}

-- WHAT IS LOOSE

-- one of these places is that of group g, column c and stripe s
abbrev pub has_place : List Place → ℕ → ℕ → ℕ → Bool
has_place places g c s =
    list_any (λ p. ((p.group == g) && (p.column == c)) && (p.stripe == s)) places

-- some split of the record, an older one too, has a block there
abbrev pub is_named_by : Record → ℕ → ℕ → ℕ → Bool
is_named_by r g c s = list_any (λ x. has_place x.places g c s) (splits_of r)

-- and so of some record
abbrev pub is_named : List Record → ℕ → ℕ → ℕ → Bool
is_named records g c s = list_any (λ r. is_named_by r g c s) records

-- A block was put into the slot of stripe s and column c, and no record names it. The table is that
-- of group g.
abbrev pub is_loose : Table → List Record → ℕ → ℕ → ℕ → Bool
is_loose t records g c s = not (is_void (slot_at t s c)) && not (is_named records g c s)

-- how many slots of a column are loose
abbrev pub loose_slots : Table → List Record → ℕ → ℕ → ℕ
loose_slots t records g c = count t.stripes (is_loose t records g c)

-- WHAT IS TOLD

-- a column with so many loose slots, where there are any
abbrev pub some_loose : ℕ → ℕ → ℕ → List Loose
some_loose g c n =
    if nat_lt 0 n then record { group = g; column = c; count = n } ∷ [] else []

-- that of a column which is exposed to the coalition
abbrev pub loose_column : Rack → List Spot → List Record → Table → ℕ → ℕ → List Loose
loose_column rack spots records t g c =
    if is_exposed rack spots g c then some_loose g c (loose_slots t records g c) else []

-- those of a group: its data columns in order
abbrev pub loose_group : Rack → List Spot → List Record → Table → ℕ → List Loose
loose_group rack spots records t g =
    flat_map (loose_column rack spots records t g) (range_with_len 0 t.data_columns)

-- those of groups in order, of which the first has number g
abbrev pub loose_from : Rack → List Spot → List Record → ℕ → List Table → List Loose
loose_from rack spots records g [] = []
loose_from rack spots records g (t ∷ tables) =
    loose_group rack spots records t g ++ loose_from rack spots records (suc g) tables

-- all of them, by the tables of all groups
abbrev pub loose_columns : Rack → List Spot → List Table → List Record → List Loose
loose_columns rack spots tables records = loose_from rack spots records 0 tables

-- MARKS

-- stripe s was marked
abbrev pub is_marked : List Bool → ℕ → Bool
is_marked marks s = slice_index_or marks s false

-- the stripes that pass the test were marked too
pub record AddsMarks (test : ℕ → Bool) (old new : List Bool) : Type 0 where
  pub count : length new ≡ length old
  pub each : (s : ℕ) → s < length old → is_marked new s ≡ (is_marked old s || test s)

-- the stripes that pass the test are marked, and no other
pub record AreStripesMarked (test : ℕ → Bool) (stripes : ℕ) (marks : List Bool) : Type 0 where
  pub count : length marks ≡ stripes
  pub each : (s : ℕ) → s < stripes → is_marked marks s ≡ test s
