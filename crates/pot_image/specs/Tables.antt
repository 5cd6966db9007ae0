-- The tables of an image.
use Rattle.std.specs.Prelude.{ℕ, ◌+◌, ◌-◌, ◌*◌, ◌==◌, ◌&&◌, ◌||◌, nat_le, nat_lt, Bool, not}
use Rattle.std.specs.Prelude.{if◌then◌else◌, Some, None, List, [], ◌∷◌, ◌++◌, flat_map}
use Rattle.std.specs.Prelude.{slice_index_or}
use Rattle.std.specs.List.{list_any}
use Rattle.pot_bytes.specs.declared.digest.Digest.{Digest}
use Rattle.pot_bytes.specs.declared.rack.Rack.{Rack}
use Rattle.pot_machine.specs.declared.slot.SlotState.{SlotState}
use Rattle.pot_machine.specs.declared.slot.SlotState.TheVariants.{Void, Live, Lost, Broken}
use Rattle.pot_machine.specs.declared.column.Column.{Column}
use Rattle.pot_machine.specs.declared.cursor.Cursor.{Cursor}
use Rattle.pot_machine.specs.Slot.{is_void}
use Rattle.pot_machine.specs.Column.{homes_of}
use Rattle.pot_machine.specs.Table.{Table, archives_in}
use Rattle.pot_machine.specs.Making.{table_of}
use Rattle.pot_image.specs.Fields.{Grammar, done}
use Rattle.pot_image.specs.Reading.{◌>>=◌, over, several}
use Rattle.pot_image.specs.Numbers.{natural, at_most, between, zeros, flag, digest}

-- an archive number, at most 511, which none of the columns before names
abbrev pub is_free : List ℕ → ℕ → Bool
is_free taken n = nat_le n 511 && not (list_any (λ m. m == n) taken)

-- behind the flag 1: the target, which differs from the home too, and the position, at most the
-- number of stripes
abbrev pub moving : ℕ → List ℕ → ℕ → Grammar Column
moving stripes taken home =
    natural 4 (is_free taken) >>= λ to.
    natural 4 (at_most stripes) >>= λ upto.
    done (record { home = home; moving = Some (record { to = to; upto = upto }) })

-- behind the flag 0: zeros in their place
abbrev pub resting : ℕ → Grammar Column
resting home =
    zeros 4 >>= λ to.
    zeros 4 >>= λ upto.
    done (record { home = home; moving = None })

-- a column: its home, whether it moves, three zeros, and where it moves to
unfoldable pub column : ℕ → List ℕ → Grammar Column
column stripes taken =
    natural 4 (is_free taken) >>= λ home.
    flag >>= λ moves.
    zeros 3 >>= λ padding.
    (if moves then moving stripes (taken ++ home ∷ []) home else resting home)

-- a column behind others
abbrev pub column_behind : ℕ → List ℕ → ℕ → List Column → Grammar Column
column_behind stripes taken c before = column stripes (taken ++ flat_map homes_of before)

-- so many columns, one after another
unfoldable pub columns : ℕ → ℕ → List ℕ → Grammar (List Column)
columns width stripes taken = several 0 width (column_behind stripes taken) []

-- Whether the slot of stripe `s` and column `c` may be Void, or may be another, behind these slots:
-- all slots of the stripes after the cursor's are Void. Each parity slot is Void exactly where the
-- first data slot of its stripe is. In the cursor's stripe the data slots that are not Void are
-- exactly those before the cursor, and in the stripes before it they are the first columns.
abbrev pub allows : Cursor → ℕ → ℕ → List SlotState → ℕ → ℕ → Bool → Bool
allows cursor data_columns width before s c void =
    if nat_lt cursor.stripe s then void
    else if nat_le data_columns c
    then (if is_void (slice_index_or before (s * width) Void) then void else not void)
    else if s == cursor.stripe then (if nat_le cursor.column c then void else not void)
    else (c == 0) || (not (is_void (slice_index_or before (s * width + c - 1) Void)) || void)

-- what a state byte that is not 0 says of a slot
abbrev pub state_of : ℕ → Digest → SlotState
state_of n d = if n == 1 then Live d else if n == 2 then Lost d else Broken d

-- a slot: its state, at most 3, which says by 0 that it is Void, and the digest of any other
unfoldable pub slot : (Bool → Bool) → Grammar SlotState
slot allowed =
    natural 1 (λ n. between 0 3 n && allowed (n == 0)) >>= λ state.
    (if state == 0 then done Void else digest >>= λ d. done (state_of state d))

-- the slot of a stripe and a column behind others
abbrev pub slot_behind : Cursor → ℕ → ℕ → ℕ → ℕ → List SlotState → Grammar SlotState
slot_behind cursor data_columns width s c before =
    slot (allows cursor data_columns width before s c)

-- the slots of a stripe, behind those of the stripes before it
unfoldable pub stripe_slots : Cursor → ℕ → ℕ → ℕ → List SlotState → Grammar (List SlotState)
stripe_slots cursor data_columns width s before =
    several 0 width (slot_behind cursor data_columns width s) before

-- all slots, stripe by stripe and column by column
unfoldable pub slots : Cursor → ℕ → ℕ → ℕ → Grammar (List SlotState)
slots cursor data_columns width stripes = over 0 stripes (stripe_slots cursor data_columns width) []

-- behind the last stripe a cursor is at column 0
abbrev pub is_cursor : Rack → ℕ → ℕ → Bool
is_cursor rack stripe c = nat_lt stripe rack.stripes || (c == 0)

-- the cursor: its stripe, its column, which is a data column, and three zeros
unfoldable pub cursor : Rack → Grammar Cursor
cursor rack =
    natural 4 (at_most rack.stripes) >>= λ stripe.
    natural 1 (λ c. between 0 (rack.columns - 1) c && is_cursor rack stripe c) >>= λ column.
    zeros 3 >>= λ padding.
    done (record { stripe = stripe; column = column })

-- a table: the cursor, the columns and the slots
unfoldable pub table : Rack → List ℕ → Grammar Table
table rack taken =
    cursor rack >>= λ at.
    columns (rack.columns + rack.parity) rack.stripes taken >>= λ columns.
    slots at rack.columns (rack.columns + rack.parity) rack.stripes >>= λ slots.
    done (table_of rack.stripes at columns slots rack.parity)

-- the table of a group behind those of others
abbrev pub table_behind : Rack → ℕ → List Table → Grammar Table
table_behind rack g before = table rack (flat_map archives_in before)

-- the tables of all groups, one after another
unfoldable pub tables : Rack → Grammar (List Table)
tables rack = several 0 rack.groups (table_behind rack) []
