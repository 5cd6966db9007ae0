use Rattle.std.proofs.Common.{IsTrue}
use Rattle.pot_group.proofs.BeginSteps.{begin_step}
use Rattle.pot_group.proofs.Rows.{begin_made}
use Rattle.pot_group.proofs.group.Group.begin.Goals as goal

pub returns : goal.returns
returns g c = record {
  begins = begin_made g.A.Archive.account.meaning (IsTrue g.A.Archive.account.tells) c.args.job c.args.place c.args.blind.now c.args.self.now c.begin_there.new.self c.begin_there.result c.begin_there.ensures
      (λ t. begin_step (IsTrue g.A.Archive.account.tells) g.A.Archive.account.meaning c.args.self.now c.args.job c.args.place.stripe c.args.place.column c.args.blind.now
      c.logged-settled.ensures.settled c.block_law.ensures c.requires.stripe c.requires.column c.begin_there.result c.begin_there.new.self c.begin_there.ensures);
}
