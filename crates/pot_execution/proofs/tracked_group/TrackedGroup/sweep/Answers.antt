use Rattle.std.proofs.Common.{IsTrue}
use Rattle.pot_group.specs.Group.{view_of}
use Rattle.pot_execution.proofs.ExecutionLemmas.{swept}
use Rattle.pot_execution.proofs.tracked_group.TrackedGroup.sweep.Goals as goal

pub invariant_of-self : goal.invariant_of-self
invariant_of-self g c = swept (IsTrue g.A.Archive.account.tells) (view_of g.A.Archive.account.meaning c.self.inside.group) (view_of g.A.Archive.account.meaning c.sweep.new.self) c.args.job c.args.stripe c.args.column c.sweep.result c.logged-settled.ensures.arrived c.sweep.ensures.sweeps c.self.invariant
