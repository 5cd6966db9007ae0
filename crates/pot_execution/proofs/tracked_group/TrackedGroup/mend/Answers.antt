use Rattle.pot_group.specs.Group.{view_of}
use Rattle.pot_group.specs.Relaying.{mend_as}
use Rattle.pot_execution.specs.Execution as call
use Rattle.pot_execution.proofs.Begun.{mend_adds}
use Rattle.pot_execution.proofs.ExecutionLemmas.{after_kept}
use Rattle.pot_execution.proofs.tracked_group.TrackedGroup.mend.Goals as goal

pub invariant_of-self : goal.invariant_of-self
invariant_of-self g c = after_kept (view_of g.A.Archive.account.meaning c.self.inside.group) (view_of g.A.Archive.account.meaning c.mend.new.self) c.mend.ensures.mends.0 (call.Mend c.args.job c.args.place.stripe c.args.place.column c.args.blind.now (mend_as c.mend.result)) c.logged-settled.ensures.arrived
    c.mend.ensures.mends.1 c.mend.ensures.mends.2.keeps tt (mend_adds c.args.job c.args.place.stripe c.args.place.column c.args.blind.now (view_of g.A.Archive.account.meaning c.self.inside.group) (view_of g.A.Archive.account.meaning c.mend.new.self) c.mend.ensures.mends.0 c.mend.result c.mend.ensures.mends.2.tells) ((rw (← c.self.view_is) at c.requires.stripe), (rw (← c.self.view_is) at c.requires.column), c.block_law.ensures) c.mend.ensures.mends.2.step tt c.self.invariant
