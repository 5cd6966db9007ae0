use Rattle.pot_group.specs.Group.{view_of, put_as}
use Rattle.pot_execution.specs.Execution as call
use Rattle.pot_execution.proofs.Begun.{put_adds}
use Rattle.pot_execution.proofs.ExecutionLemmas.{after_kept}
use Rattle.pot_execution.proofs.tracked_group.TrackedGroup.put.Goals as goal

pub invariant_of-self : goal.invariant_of-self
invariant_of-self g c = after_kept (view_of g.A.Archive.account.meaning c.self.inside.group) (view_of g.A.Archive.account.meaning c.put.new.self) c.put.ensures.puts.0 (call.Put c.args.job c.args.block.now (put_as c.put.result)) c.logged-settled.ensures.arrived
    c.put.ensures.puts.1 c.put.ensures.puts.2.keeps tt (put_adds _ c.args.job c.args.block.now c.put.result (view_of g.A.Archive.account.meaning c.self.inside.group) (view_of g.A.Archive.account.meaning c.put.new.self) c.put.ensures.puts.0 c.put.ensures.puts.2) c.block_law.ensures c.put.ensures.puts.2.step tt c.self.invariant
