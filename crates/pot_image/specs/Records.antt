-- The records of an image.
use Rattle.std.specs.Prelude.{ℕ, ◌-◌, ◌*◌, ◌==◌, ◌&&◌, Bool, true, false, not, Some, None, List, []}
use Rattle.std.specs.Prelude.{length, slice_get}
use Rattle.std.specs.List.{list_any, list_all}
use Rattle.std.specs.Cmp.Lexicographic.{slice_cmp}
use Rattle.std.specs.Ordering.{is_lt, nat_cmp}
use Rattle.pot_bytes.specs.Names.{is_name_byte}
use Rattle.pot_bytes.specs.declared.rack.Geometry.{Geometry}
use Rattle.pot_bytes.specs.declared.rack.Place.{Place}
use Rattle.pot_bytes.specs.declared.rack.Rack.{Rack}
use Rattle.pot_object.specs.Pieces.{longest, pieces_of}
use Rattle.pot_machine.specs.Slot.{is_void}
use Rattle.pot_machine.specs.Table.{Table, slot_at}
use Rattle.pot_index.specs.declared.record.Record.{Record}
use Rattle.pot_index.specs.declared.record.Split.{Split}
use Rattle.pot_index.specs.Fits.{group_of}
use Rattle.pot_image.specs.declared.records.RecordSplits.{RecordSplits}
use Rattle.pot_image.specs.declared.format.Format.{Format}
use Rattle.pot_image.specs.declared.format.Format.TheVariants.{First, Second}
use Rattle.pot_image.specs.Fields.{Grammar, done}
use Rattle.pot_image.specs.Reading.{◌>>=◌, several}
use Rattle.pot_image.specs.Numbers.{natural, text, at_most, between, digest}
use Rattle.pot_image.specs.Heads.{geometry}

abbrev pub is_name : List ℕ → Bool
is_name x = list_all is_name_byte x

-- a name that keeps a rule: its length, and so many bytes of a name
unfoldable pub name : (List ℕ → Bool) → Grammar (List ℕ)
name rule =
    natural 1 (between 1 64) >>= λ n.
    text n (λ x. is_name x && rule x)

-- the name is above that of the last of these records
abbrev pub is_above : List Record → List ℕ → Bool
is_above before x =
    elim (slice_get before (length before - 1))
    [ None ↦ true | Some r ↦ is_lt (slice_cmp nat_cmp r.name x) ]

-- the slot at this place is not Void
abbrev pub is_filled : List Table → ℕ → ℕ → ℕ → Bool
is_filled tables g c s =
    elim (slice_get tables g) [ None ↦ false | Some t ↦ not (is_void (slot_at t s c)) ]

abbrev pub is_at : ℕ → ℕ → ℕ → Place → Bool
is_at g c s p = (p.group == g) && ((p.column == c) && (p.stripe == s))

-- the place is not among these
abbrev pub is_apart : List Place → ℕ → ℕ → ℕ → Bool
is_apart before g c s = not (list_any (is_at g c s) before)

-- The place of a block, by its number, behind those of the blocks before it: its group, a data
-- column, and a stripe. The field of the stripe carries the rules that the slot is not Void and
-- that the place is not among those before.
unfoldable pub place : Rack → List Table → Geometry → ℕ → List Place → Grammar Place
place rack tables g b before =
    natural 1 (λ n. n == group_of rack g b) >>= λ group.
    natural 1 (between 0 (rack.columns - 1)) >>= λ column.
    natural 4 (λ s. at_most (rack.stripes - 1) s
    && (is_filled tables group column s && is_apart before group column s)) >>= λ stripe.
    done (record { group = group; column = column; stripe = stripe })

-- the places of a file of so many pieces that is split so
unfoldable pub places : Rack → List Table → ℕ → Geometry → Grammar (List Place)
places rack tables pieces g = several 0 (pieces * g.fragments * g.shards) (place rack tables g) []

-- a split with its geometry
unfoldable pub split : Rack → List Table → ℕ → Grammar Split
split rack tables pieces =
    geometry rack.groups >>= λ g.
    places rack tables pieces g >>= λ ps.
    done (record { geometry = g; places = ps })

abbrev pub split_behind : Rack → List Table → ℕ → ℕ → List Split → Grammar Split
split_behind rack tables pieces i before = split rack tables pieces

-- the number of splits, 1 to 16, and the splits. In the first format one split of the rack's
-- geometry, which is not written
unfoldable pub splits : Format → Rack → List Table → ℕ → Grammar RecordSplits
splits First rack tables pieces =
    places rack tables pieces rack.geometry >>= λ ps.
    done (record { older = []; current = record { geometry = rack.geometry; places = ps } })
splits Second rack tables pieces =
    natural 1 (between 1 16) >>= λ n.
    several 0 (n - 1) (split_behind rack tables pieces) [] >>= λ older.
    split rack tables pieces >>= λ current.
    done (record { older = older; current = current })

-- a record behind others: the name, the length of the file, its digest and the splits
unfoldable pub record_behind : Format → Rack → List Table → ℕ → List Record → Grammar Record
record_behind format rack tables i before =
    name (is_above before) >>= λ name.
    natural 8 (at_most longest) >>= λ length.
    digest >>= λ digest.
    splits format rack tables (pieces_of length) >>= λ s.
    done (record {
      name = name;
      length = length;
      digest = digest;
      geometry = s.current.geometry;
      places = s.current.places;
      older = s.older;
    })

-- the number of records and the records
unfoldable pub records : Format → Rack → List Table → Grammar (List Record)
records format rack tables =
    natural 4 (at_most 4000000000) >>= λ n.
    several 0 n (record_behind format rack tables) []
