use Rattle.std.proofs.Common.{◌≡◌, take}
use Rattle.std.specs.Prelude.{flat_map}
use Rattle.pot_machine.specs.Table.{archives_in}
use Rattle.pot_shared.proofs.hand.numbers_in.Given as goal

abbrev pub invariant-loop-table : goal.invariant-loop-table
invariant-loop-table l = l.numbers.items ≡ flat_map archives_in (take l.table-index l.tables)
