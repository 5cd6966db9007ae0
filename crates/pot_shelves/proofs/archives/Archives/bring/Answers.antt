use Rattle.std.specs.Prelude.{Contains}
use Rattle.std.proofs.Common.{◌≡◌, ◌++◌, ◌∷◌, [], IsTrue, List, ap, map, subst, sym, ◌∙◌}
use Rattle.std.proofs.lemmas.List.{map-append}
use Rattle.pot_outside.specs.declared.archive.Shelf.{Shelf}
use Rattle.pot_shelves.specs.Shelves.{Shelved, plain, numbers_of, Brings}
use Rattle.pot_shelves.proofs.Bringing.{brings_one}
use Rattle.pot_shelves.proofs.archives.Archives.bring.Goals as goal

pub returns-clause-brought : goal.returns-clause-brought
returns-clause-brought g c =
    let ts : List (Shelf g.row.A.Denot) = map (λ s. s.value) c.self.inside.taken.items in
    let v : Shelved g.row.A.Denot = record { shelves = c.self.inside.shelves.items; marks = c.self.inside.marks.items; opened = c.self.inside.opened.items; taken = ts } in
    let snapped : map (λ s. s.value) c.push_reserved.new.self.items ≡ ts ++ c.args.shelf ∷ [] =
    ap (map (λ s. s.value)) (c.push_reserved.ensures.items ∙ ap (λ xs. xs ++ c.of.result ∷ []) c.reserve-4.ensures.items) ∙ map-append (λ s. s.value) c.self.inside.taken.items (c.of.result ∷ [])
    ∙ ap (λ x. ts ++ x ∷ []) c.of.ensures in
    subst (λ (w : Shelved g.row.A.Denot). Brings (IsTrue g.A.Archive.account.tells) c.args.shelf.number (g.A.Archive.account.meaning c.args.shelf.archive)
    (plain g.A.Archive.account.meaning w)
    (plain g.A.Archive.account.meaning (record { shelves = c.push_reserved-4.new.self.items; marks = c.push_reserved-2.new.self.items; opened = c.push_reserved-3.new.self.items; taken = map (λ s. s.value) c.push_reserved.new.self.items }))) c.self.view_is
    (rw (c.push_reserved-4.ensures.items, c.push_reserved-3.ensures.items, c.push_reserved-2.ensures.items, snapped, c.reserve.ensures.items, c.reserve-2.ensures.items, c.reserve-3.ensures.items)
    (brings_one (IsTrue g.A.Archive.account.tells) g.A.Archive.account.meaning c.self.inside.shelves.items c.self.inside.marks.items c.self.inside.opened.items ts c.args.shelf c.marks-marks.result
    c.self.invariant.0 c.self.invariant.1 c.self.invariant.2
    (subst (λ (w : Shelved g.row.A.Denot). Contains (numbers_of w.shelves) c.args.shelf.number → ⊥) (sym c.self.view_is) c.requires.fresh)
    c.marks-marks.ensures.marks.faults c.marks-marks.ensures.marks.losses
    (λ t. record { past = c.marks-marks.ensures.marks.past t; low = c.marks-marks.ensures.marks.low t })))
