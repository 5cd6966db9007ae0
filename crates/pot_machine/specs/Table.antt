-- The table of a group, and how it is read.
use Rattle.std.specs.Prelude.{ℕ, zero, suc, ◌+◌, ◌*◌, ◌==◌, ◌&&◌, nat_lt, nat_le, Bool, true, not}
use Rattle.std.specs.Prelude.{Option, Some, None, List, if◌then◌else◌, slice_index_or, find}
use Rattle.std.specs.Prelude.{flat_map}
use Rattle.pot_machine.specs.declared.slot.SlotState.{SlotState}
use Rattle.pot_machine.specs.declared.slot.SlotState.TheVariants.{Void}
use Rattle.pot_machine.specs.declared.column.Column.{Column}
use Rattle.pot_machine.specs.declared.relay.Relay.{Relay}
use Rattle.pot_machine.specs.declared.cursor.Cursor.{Cursor}
use Rattle.pot_machine.specs.Slot.{is_void}
use Rattle.pot_machine.specs.Column.{names, serving, homes_of}

-- The data columns stand first, behind them the parity column P, and behind it Q where there are
-- two.
pub record Table : Type 0 where
  -- the number of data columns, and that of parity columns
  pub data_columns : ℕ
  pub parity : ℕ
  pub stripes : ℕ
  -- where the next put goes
  pub cursor : Cursor
  pub columns : List Column
  -- stripe by stripe, and column by column
  pub slots : List SlotState
  -- in the order in which they began
  pub relays : List Relay

abbrev pub width : Table → ℕ
width t = t.data_columns + t.parity

-- the archives of a table, column by column
abbrev pub archives_in : Table → List ℕ
archives_in t = flat_map homes_of t.columns

-- where the slots have the slot of this stripe and column
abbrev pub place_of : Table → ℕ → ℕ → ℕ
place_of t s c = s * width t + c

abbrev pub slot_at : Table → ℕ → ℕ → SlotState
slot_at t s c = slice_index_or t.slots (place_of t s c) Void

abbrev pub no_column : Column
no_column = record { home = 0; moving = None }

abbrev pub column_at : Table → ℕ → Column
column_at t c = slice_index_or t.columns c no_column

-- the archive that serves a slot
abbrev pub serving_at : Table → ℕ → ℕ → ℕ
serving_at t s c = serving (column_at t c) s

-- the relay that stands in a stripe
abbrev pub relay_in : List Relay → ℕ → Option Relay
relay_in relays s = find (λ r. r.stripe == s) relays

abbrev pub relay_at : Table → ℕ → Option Relay
relay_at t s = relay_in t.relays s

-- the first of two answers
abbrev pub or_else : Option ℕ → Option ℕ → Option ℕ
or_else (Some k) o = Some k
or_else None o = o

-- the least number below `n` that passes the test
unfoldable pub least : ℕ → (ℕ → Bool) → Option ℕ
least zero test = None
least (suc n) test = or_else (least n test) (if test n then Some n else None)

-- how many numbers below `n` pass the test
unfoldable pub count : ℕ → (ℕ → Bool) → ℕ
count zero test = 0
count (suc n) test = count n test + (if test n then 1 else 0)

-- the least column whose slot passes the test
abbrev pub first : Table → ℕ → (SlotState → Bool) → Option ℕ
first t s test = least (width t) (λ k. test (slot_at t s k))

-- the least other column whose slot passes the test
abbrev pub first_beside : Table → ℕ → ℕ → (SlotState → Bool) → Option ℕ
first_beside t s c test = least (width t) (λ k. not (k == c) && test (slot_at t s k))

-- how many other slots of the stripe pass the test
abbrev pub count_beside : Table → ℕ → ℕ → (SlotState → Bool) → ℕ
count_beside t s c test = count (width t) (λ k. not (k == c) && test (slot_at t s k))

-- the column that a relay goes without: the other Lost slot, and where there is none the parity
-- column whose equation it does not use. That is Q, or P for the target Q, and with one parity
-- column there is no Q
abbrev pub skipped : ℕ → Option ℕ → ℕ → ℕ
skipped data_columns (Some u) target = u
skipped data_columns None target =
    if nat_le target data_columns then data_columns + 1 else data_columns

abbrev pub is_after : Option ℕ → ℕ → Bool
is_after None c = true
is_after (Some l) c = nat_lt l c

-- the columns that a relay has yet to go over: those above its last one whose slot is not Void, but
-- for the target and the column that it goes without
abbrev pub is_ahead : Table → Relay → ℕ → Bool
is_ahead t r c =
    is_after r.last c
    && (not (c == r.target)
    && (not (c == skipped t.data_columns r.skip r.target) && not (is_void (slot_at t r.stripe c))))

abbrev pub next_column : Table → Relay → Option ℕ
next_column t r = least (width t) (is_ahead t r)

-- the column whose home or target is the archive of this number
abbrev pub holder_of : Table → ℕ → Option ℕ
holder_of t number = least (width t) (λ k. names (column_at t k) number)
