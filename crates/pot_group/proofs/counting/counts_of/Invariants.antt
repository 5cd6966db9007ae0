use Rattle.std.proofs.Common.{◌*◌}
use Rattle.pot_machine.specs.Table.{width}
use Rattle.pot_group.specs.Counting.{CountsFirst}
use Rattle.pot_group.proofs.counting.counts_of.Given as goal

abbrev pub invariant-loop-stripe : goal.invariant-loop-stripe
invariant-loop-stripe l = CountsFirst (l.stripe * width l.table) l.table l.counts
