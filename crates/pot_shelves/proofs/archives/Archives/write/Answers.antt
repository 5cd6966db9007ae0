use Rattle.std.proofs.Common.{IsTrue, map, subst}
use Rattle.pot_shelves.specs.Shelves.{Shelved, plain, WritesAt}
use Rattle.pot_shelves.proofs.TouchLemmas.{writes}
use Rattle.pot_shelves.proofs.archives.Archives.write.Goals as goal

pub returns : goal.returns
returns g c =
    subst
    (λ (v : Shelved g.row.A.Denot). WritesAt (IsTrue g.A.Archive.account.tells) c.args.number c.args.slot c.args.block.now c.write.result
    (plain g.A.Archive.account.meaning v)
    (plain g.A.Archive.account.meaning (record { shelves = c.write.new.shelves.items; marks = c.self.inside.marks.items; opened = c.self.inside.opened.items; taken = map (λ s. s.value) c.self.inside.taken.items })))
    c.self.view_is
    (writes (IsTrue g.A.Archive.account.tells) g.A.Archive.account.meaning c.self.inside.marks.items c.self.inside.opened.items (map (λ s. s.value) c.self.inside.taken.items) c.args.number c.args.slot c.args.block.now c.write.result c.self.inside.shelves.items c.write.new.shelves.items c.write.ensures)
