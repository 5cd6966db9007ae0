use Rattle.std.proofs.Common.{◌≡◌, ◌++◌, ◌-◌, flat_map}
use Rattle.pot_image.specs.Reading.{several, reading}
use Rattle.pot_machine.specs.Column.{homes_of}
use Rattle.pot_image.specs.Tables.{column_behind, columns}
use Rattle.pot_image.proofs.columns.read_columns.Given as goal

abbrev pub invariant-loop : goal.invariant-loop
invariant-loop l = record {
  reads : reading (several l.counter (l.width - l.counter) (column_behind l.stripes l.fn.taken.items) l.columns.items) l.rest ≡ reading (columns l.width l.stripes l.fn.taken.items) l.bytes;
  taken : l.taken.items ≡ l.fn.taken.items ++ flat_map homes_of l.columns.items;
}
