use Rattle.std.proofs.Common.{IsTrue, []}
use Rattle.pot_group.specs.Group.{view_of}
use Rattle.pot_group.proofs.Passing.{passes_none, passes_more, fewer_left, finds_at}
use Rattle.pot_group.proofs.group.Group.find_stripe.Goals as goal

pub loop-stop-init : goal.loop-stop-init
loop-stop-init g c = ([], passes_none (IsTrue g.A.Archive.account.tells) c.args.job (view_of g.A.Archive.account.meaning c.args.self.now))

pub returns-in-Some : goal.returns-in-Some
returns-in-Some g c =
    finds_at (IsTrue g.A.Archive.account.tells) c.args.job c.loop-stop.invariant.0 c.pass.new.parity.first c.pass.new.parity.second c.in-Some.stop
    (view_of g.A.Archive.account.meaning c.args.self.now)
    (view_of g.A.Archive.account.meaning c.loop-stop.self)
    (view_of g.A.Archive.account.meaning c.pass.new.self)
    c.loop-stop.invariant.1 c.in-Some.ensures

pub loop-stop-smaller : goal.loop-stop-smaller
loop-stop-smaller g c =
    fewer_left (IsTrue g.A.Archive.account.tells) c.args.job c.pass.new.parity.first c.pass.new.parity.second
    (view_of g.A.Archive.account.meaning c.loop-stop.self)
    (view_of g.A.Archive.account.meaning c.pass.new.self)
    c.in_default.ensures

pub loop-stop-preserved : goal.loop-stop-preserved
loop-stop-preserved g c = (
  _,
  passes_more (IsTrue g.A.Archive.account.tells) c.args.job c.loop-stop.invariant.0 c.pass.new.parity.first c.pass.new.parity.second
      (view_of g.A.Archive.account.meaning c.args.self.now)
      (view_of g.A.Archive.account.meaning c.loop-stop.self)
      (view_of g.A.Archive.account.meaning c.pass.new.self)
      c.loop-stop.invariant.1 c.in_default.ensures,
)
