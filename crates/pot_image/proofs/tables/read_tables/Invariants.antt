use Rattle.std.proofs.Common.{◌≡◌, ◌-◌, flat_map}
use Rattle.pot_image.specs.Reading.{several, reading}
use Rattle.pot_machine.specs.Table.{archives_in}
use Rattle.pot_image.specs.Tables.{table_behind, tables}
use Rattle.pot_image.proofs.tables.read_tables.Given as goal

abbrev pub invariant-loop : goal.invariant-loop
invariant-loop l = record {
  reads : reading (several l.counter (l.rack.groups - l.counter) (table_behind l.rack) l.tables.items) l.rest ≡ reading (tables l.rack) l.bytes;
  taken : l.taken.items ≡ flat_map archives_in l.tables.items;
}
