use Rattle.std.proofs.Common.{◌∙◌, ap, subst, List, IsTrue}
use Rattle.std.specs.List.{list_any}
use Rattle.pot_index.specs.declared.reservation.Reservation.{Reservation}
use Rattle.pot_index.specs.Index.{IndexView, IsReserved, same_name}
use Rattle.pot_index.proofs.NameLemmas.{any_tells}
use Rattle.pot_index.proofs.lists.Lists.is_reserved.Goals as goal

pub returns : goal.returns
returns c =
    let name = c.args.name.now in
    subst (λ (v : IndexView). (IsTrue c.is_reserved.result → IsReserved v.now name) × (IsReserved v.now name → IsTrue c.is_reserved.result)) c.self.view_is
    (any_tells c.self.inside.reserved.items name c.is_reserved.result
    (c.is_reserved.ensures ∙ ap (λ (xs : List Reservation). list_any (λ x. same_name x.name name) xs) c.deref.ensures.value))
