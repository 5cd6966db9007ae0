use Rattle.std.proofs.Common.{IsTrue, map, subst}
use Rattle.pot_shelves.specs.Shelves.{Shelved, plain, ReadsAt}
use Rattle.pot_shelves.proofs.TouchLemmas.{answers}
use Rattle.pot_shelves.proofs.archives.Archives.read.Goals as goal

pub returns : goal.returns
returns g c =
    subst
    (λ (v : Shelved g.row.A.Denot). ReadsAt (IsTrue g.A.Archive.account.tells) c.args.number c.args.slot c.read.new.into c.read.result
    (plain g.A.Archive.account.meaning v)
    (plain g.A.Archive.account.meaning (record { shelves = c.read.new.shelves.items; marks = c.self.inside.marks.items; opened = c.self.inside.opened.items; taken = map (λ s. s.value) c.self.inside.taken.items })))
    c.self.view_is
    (answers (IsTrue g.A.Archive.account.tells) g.A.Archive.account.meaning c.self.inside.marks.items c.self.inside.opened.items (map (λ s. s.value) c.self.inside.taken.items) c.args.number c.args.slot c.read.new.into c.read.result c.self.inside.shelves.items c.read.new.shelves.items c.read.ensures)
