use Rattle.std.proofs.Common.{◌+◌, ◌*◌}
use Rattle.pot_machine.specs.Table.{width}
use Rattle.pot_group.specs.Counting.{CountsFirst}
use Rattle.pot_group.proofs.counting.count_stripe.Given as goal

abbrev pub invariant-loop-column : goal.invariant-loop-column
invariant-loop-column l = CountsFirst (l.stripe * width l.table + l.column) l.table l.counts
