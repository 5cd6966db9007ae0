use Rattle.std.proofs.Common.{IsTrue}
use Rattle.pot_group.specs.Group.{view_of}
use Rattle.pot_execution.proofs.ExecutionLemmas.{move_begun}
use Rattle.pot_execution.proofs.tracked_group.TrackedGroup.move_begin.Goals as goal

pub invariant_of-self : goal.invariant_of-self
invariant_of-self g c = move_begun (IsTrue g.A.Archive.account.tells) g.A.Archive.account.meaning (view_of g.A.Archive.account.meaning c.self.inside.group) (view_of g.A.Archive.account.meaning c.move_begin.new.self) c.args.job c.args.column c.args.shelf c.logged-settled.ensures.arrived (rw (← c.self.view_is) at c.requires.column) c.move_begin.result c.move_begin.ensures.moves c.self.invariant
