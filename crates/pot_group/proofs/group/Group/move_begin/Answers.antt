use Rattle.std.proofs.Common.{◌<◌, IsTrue, length, refl, rules}
use Rattle.pot_machine.specs.declared.entry.Entry.TheVariants.{MoveBegin}
use Rattle.pot_group.specs.Group.{view_of, with_archives}
use Rattle.pot_group.proofs.MovingCalls.{begin_legal, begun_comes}
use Rattle.pot_group.proofs.Rows.{comes_made}
use Rattle.pot_group.proofs.group.Group.move_begin.Goals as goal

pub go_to-requires-clause-legal : goal.go_to-requires-clause-legal
go_to-requires-clause-legal g c =
    begin_legal (IsTrue g.A.Archive.account.tells) g.A.Archive.account.meaning c.args.self.now c.args.self.now c.args.job c.args.column c.args.shelf.number c.logged-settled.ensures.settled c.requires.column c.in_default.ensures refl

pub returns : goal.returns
returns g c =
    let told = IsTrue g.A.Archive.account.tells in
    let room : length c.args.self.now.log < 262144 = search rules in
    record {
      moves = comes_made g.A.Archive.account.meaning told c.args.shelf (view_of g.A.Archive.account.meaning c.args.self.now) (view_of g.A.Archive.account.meaning c.go_to.new.self) (MoveBegin c.args.job c.args.column c.args.shelf.number)
          (begun_comes told g.A.Archive.account.meaning c.args.self.now (with_archives c.args.self.now c.go_to.new.self.shelves) c.go_to.new.self c.args.shelf c.logged-settled.ensures.settled room c.in_default.ensures.1
          refl c.in_default-go_to.ensures.came.1 c.args.job c.args.column c.requires.column c.in_default.ensures.0 c.in_default-go_to.ensures.came.0);
    }
