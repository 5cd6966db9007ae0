use Rattle.pot_group.specs.Group.{view_of}
use Rattle.pot_group.specs.Moving.{move_as}
use Rattle.pot_execution.specs.Execution as call
use Rattle.pot_execution.proofs.Begun.{move_adds}
use Rattle.pot_execution.proofs.ExecutionLemmas.{after_kept}
use Rattle.pot_execution.proofs.tracked_group.TrackedGroup.move_step.Goals as goal

pub invariant_of-self : goal.invariant_of-self
invariant_of-self g c = after_kept (view_of g.A.Archive.account.meaning c.self.inside.group) (view_of g.A.Archive.account.meaning c.move_step.new.self) c.move_step.ensures.moves.0 (call.MoveOne c.args.job c.args.column (move_as c.move_step.result)) c.logged-settled.ensures.arrived
    c.move_step.ensures.moves.1 c.move_step.ensures.moves.2.keeps tt (move_adds c.args.job c.args.column c.move_step.result (view_of g.A.Archive.account.meaning c.self.inside.group) (view_of g.A.Archive.account.meaning c.move_step.new.self) c.move_step.ensures.moves.0 c.move_step.ensures.moves.2.tells) tt c.move_step.ensures.moves.2.step tt c.self.invariant
