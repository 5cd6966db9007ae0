use Rattle.std.proofs.Common.{IsTrue, [], subst}
use Rattle.pot_group.specs.Group.{view_of}
use Rattle.pot_shelves.specs.Shelves.{plain}
use Rattle.pot_group.specs.Putting.{Passes}
use Rattle.pot_group.proofs.Passing.{left_passes}
use Rattle.pot_group.proofs.group.Group.pass.Goals as goal

pub returns-in-Missing : goal.returns-in-Missing
returns-in-Missing g c =
    left_passes (IsTrue g.A.Archive.account.tells) c.args.job c.read_parity.new.old.first c.read_parity.new.old.second c.leave.result
    (view_of g.A.Archive.account.meaning c.args.self.now)
    (plain g.A.Archive.account.meaning c.read_parity.new.self.shelves)
    (view_of g.A.Archive.account.meaning c.leave.new.self)
    c.read_parity.ensures.reads.stays c.leave.ensures.left
    (subst (λ p. Passes (IsTrue g.A.Archive.account.tells) c.args.job [] [] c.leave.result (view_of g.A.Archive.account.meaning p)
    (view_of g.A.Archive.account.meaning c.leave.new.self)) c.read_parity.ensures.same c.leave.ensures.passes)
