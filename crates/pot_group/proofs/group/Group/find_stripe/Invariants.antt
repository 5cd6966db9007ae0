use Rattle.std.proofs.Common.{IsTrue, List, ◌-◌}
use Rattle.pot_steps.specs.GroupStep.{Passed}
use Rattle.pot_group.specs.Group.{view_of}
use Rattle.pot_group.specs.Putting.{PassesAll}
use Rattle.pot_group.proofs.group.Group.find_stripe.Given as goal

abbrev pub invariant-loop-stop : goal.invariant-loop-stop
invariant-loop-stop g l =
    (passed : List Passed)
    × PassesAll (IsTrue g.A.Archive.account.tells) l.job passed (view_of g.A.Archive.account.meaning l.fn.self)
    (view_of g.A.Archive.account.meaning l.self)

abbrev pub decreases-loop-stop : goal.decreases-loop-stop
decreases-loop-stop g l = l.self.table.stripes - l.self.table.cursor.stripe
