use Rattle.std.proofs.Common.{IsTrue, map, subst}
use Rattle.pot_shelves.specs.Shelves.{Shelved, plain, FoldsAt}
use Rattle.pot_shelves.proofs.TouchLemmas.{folds}
use Rattle.pot_shelves.proofs.archives.Archives.fold.Goals as goal

pub returns : goal.returns
returns g c =
    subst
    (λ (v : Shelved g.row.A.Denot). FoldsAt (IsTrue g.A.Archive.account.tells) c.args.number c.args.slot c.args.weight c.args.sum.now c.fold.new.sum c.fold.result
    (plain g.A.Archive.account.meaning v)
    (plain g.A.Archive.account.meaning (record { shelves = c.fold.new.shelves.items; marks = c.self.inside.marks.items; opened = c.self.inside.opened.items; taken = map (λ s. s.value) c.self.inside.taken.items })))
    c.self.view_is
    (folds (IsTrue g.A.Archive.account.tells) g.A.Archive.account.meaning c.self.inside.marks.items c.self.inside.opened.items (map (λ s. s.value) c.self.inside.taken.items) c.args.number c.args.slot c.args.weight c.args.sum.now c.fold.new.sum c.fold.result c.self.inside.shelves.items c.fold.new.shelves.items c.fold.ensures)
