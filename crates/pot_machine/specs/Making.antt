-- The tables that groups begin with.
use Rattle.std.specs.Prelude.{ℕ, ◌+◌, ◌-◌, ◌*◌, None, List, [], length, map, replicate}
use Rattle.std.specs.List.{range_with_len}
use Rattle.pot_bytes.specs.declared.rack.Rack.{Rack}
use Rattle.pot_machine.specs.declared.slot.SlotState.{SlotState}
use Rattle.pot_machine.specs.declared.slot.SlotState.TheVariants.{Void}
use Rattle.pot_machine.specs.declared.column.Column.{Column}
use Rattle.pot_machine.specs.declared.cursor.Cursor.{Cursor}
use Rattle.pot_machine.specs.Table.{Table}

-- a column that does not move
abbrev pub column_home : ℕ → Column
column_home number = record { home = number; moving = None }

-- no slot is used, no column moves, and the groups' archives are numbered one group after the
-- other, by column
abbrev pub empty_table : Rack → ℕ → Table
empty_table rack group =
    let width = rack.columns + rack.parity in
    record {
      data_columns = rack.columns;
      parity = rack.parity;
      stripes = rack.stripes;
      cursor = record { stripe = 0; column = 0 };
      columns = map column_home (range_with_len (group * width) width);
      slots = replicate (rack.stripes * width) Void;
      relays = [];
    }

-- the table of these parts, without relays
abbrev pub table_of : ℕ → Cursor → List Column → List SlotState → ℕ → Table
table_of stripes cursor columns slots parity =
    record {
      data_columns = length columns - parity;
      parity = parity;
      stripes = stripes;
      cursor = cursor;
      columns = columns;
      slots = slots;
      relays = [];
    }
