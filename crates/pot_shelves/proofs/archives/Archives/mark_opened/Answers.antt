use Rattle.std.proofs.Common.{IsTrue, map}
use Rattle.pot_shelves.proofs.TouchLemmas.{is_opened}
use Rattle.pot_shelves.proofs.archives.Archives.mark_opened.Goals as goal

pub returns-clause-opened : goal.returns-clause-opened
returns-clause-opened g c =
    is_opened (IsTrue g.A.Archive.account.tells) g.A.Archive.account.meaning c.self.inside.marks.items c.mark_all.new.marks.items (map (λ s. s.value) c.self.inside.taken.items)
    c.deref.result.now c.self.inside.shelves.items c.deref.ensures.value (c.mark_all.ensures.faults, c.mark_all.ensures.losses)
