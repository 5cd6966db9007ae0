use Rattle.std.proofs.Common.{◌≡◌, ◌++◌, take}
use Rattle.std.specs.Prelude.{flat_map}
use Rattle.pot_machine.specs.Column.{homes_of}
use Rattle.pot_shared.proofs.hand.append_table.Given as goal

abbrev pub invariant-loop-column : goal.invariant-loop-column
invariant-loop-column l = l.numbers.items ≡ l.initial.numbers.items ++ flat_map homes_of (take l.column-index l.column-items)
