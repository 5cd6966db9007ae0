use Rattle.std.proofs.Common.{◌<◌, IsTrue, length, rules}
use Rattle.pot_group.specs.Group.{view_of}
use Rattle.pot_group.proofs.Rows.{move_made}
use Rattle.pot_group.proofs.group.Group.move_step.Goals as goal

pub returns : goal.returns
returns g c =
    let room : length c.args.self.now.log < 262144 = search rules in
    record {
      moves = move_made (IsTrue g.A.Archive.account.tells) c.args.job c.args.column (view_of g.A.Archive.account.meaning c.args.self.now) (view_of g.A.Archive.account.meaning c.move_on.new.self) c.move_on.result room c.move_on.ensures;
    }
