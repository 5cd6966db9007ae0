use Rattle.std.proofs.Common.{refl}
use Rattle.pot_group.specs.Group.{view_of, looked_as}
use Rattle.pot_execution.specs.Execution as call
use Rattle.pot_execution.proofs.Begun.{none_added}
use Rattle.pot_execution.proofs.ExecutionLemmas.{after_kept}
use Rattle.pot_execution.proofs.tracked_group.TrackedGroup.look.Goals as goal

pub invariant_of-self : goal.invariant_of-self
invariant_of-self g c = after_kept (view_of g.A.Archive.account.meaning c.self.inside.group) (view_of g.A.Archive.account.meaning c.look.new.self) c.look.ensures.looks.0 (call.Look c.args.job c.args.place.stripe c.args.place.column (looked_as c.look.result c.look.new.into)) c.logged-settled.ensures.arrived
    c.look.ensures.looks.1 c.look.ensures.looks.2.stays.keeps tt (none_added (view_of g.A.Archive.account.meaning c.self.inside.group) (view_of g.A.Archive.account.meaning c.look.new.self) refl (c.look.ensures.looks.2.logs.blinds, c.look.ensures.looks.2.logs.tried)) ((rw (← c.self.view_is) at c.requires.stripe), (rw (← c.self.view_is) at c.requires.column)) c.look.ensures.looks.2.step tt c.self.invariant
