use Rattle.std.proofs.Common.{◌≡◌, ◌++◌, ◌*◌, take, drop}
use Rattle.pot_machine.specs.Table.{width}
use Rattle.pot_recheck.proofs.finding.append_slots.Given as goal

abbrev pub invariant-loop-column : goal.invariant-loop-column
invariant-loop-column l =
    l.slots.items ≡ l.fn.slots.items ++ take l.column (drop (l.stripe * width l.table) l.table.slots)
