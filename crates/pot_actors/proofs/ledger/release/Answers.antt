use Rattle.std.proofs.Common.{◌∙◌, sym, ap, List}
use Rattle.std.specs.List.{position}
use Rattle.pot_index.specs.declared.reservation.Reservation.{Reservation}
use Rattle.pot_index.specs.Index.{same_name}
use Rattle.pot_index.proofs.NameLemmas.{removed_is, none_is}
use Rattle.pot_actors.proofs.ledger.release.Goals as goal

pub returns-in-Some : goal.returns-in-Some
returns-in-Some c =
    let name = c.args.name.now in
    c.remove.ensures.items
    ∙ removed_is name c.args.reserved.now.items c.in-Some.at c.remove.result (sym (c.in-Some.ensures ∙ ap (λ (xs : List Reservation). position (λ x. same_name x.name name) xs) c.deref.ensures.value))

pub returns-in_default : goal.returns-in_default
returns-in_default c =
    let name = c.args.name.now in
    none_is name c.args.reserved.now.items (sym (c.in_default.ensures ∙ ap (λ (xs : List Reservation). position (λ x. same_name x.name name) xs) c.deref.ensures.value))
