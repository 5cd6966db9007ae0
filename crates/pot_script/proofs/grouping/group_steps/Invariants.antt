use Rattle.std.proofs.Common.{length}
use Rattle.std.specs.Vec.Iter.{into_iter_items}
use Rattle.pot_script.proofs.StepLemmas.{IsGrouped}
use Rattle.pot_script.proofs.grouping.group_steps.Given as goal

abbrev pub invariant-loop-command : goal.invariant-loop-command
invariant-loop-command l = IsGrouped l.fn.commands.items l.steps.items (into_iter_items l.commands)

abbrev pub decreases-loop-command : goal.decreases-loop-command
decreases-loop-command l = length (into_iter_items l.commands)
