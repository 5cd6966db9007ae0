use Rattle.std.proofs.Common.{IsTrue}
use Rattle.pot_group.specs.Group.{view_of}
use Rattle.pot_execution.proofs.ExecutionLemmas.{counted}
use Rattle.pot_execution.proofs.tracked_group.TrackedGroup.count.Goals as goal

pub invariant_of-self : goal.invariant_of-self
invariant_of-self g c = counted (IsTrue g.A.Archive.account.tells) (view_of g.A.Archive.account.meaning c.self.inside.group) (view_of g.A.Archive.account.meaning c.count.new.self) c.args.job c.count.result c.logged-settled.ensures.arrived c.count.ensures.counts c.self.invariant
