use Rattle.std.proofs.Common.{subst, sym, ◌∙◌}
use Rattle.std.specs.Prelude.{Contains}
use Rattle.pot_shelves.specs.Shelves.{Shelved, numbers_of}
use Rattle.pot_shelves.proofs.TouchLemmas.{is_found, found_is}
use Rattle.pot_shelves.proofs.archives.Archives.has.Goals as goal

pub returns : goal.returns
returns g c = (
  λ h. subst (λ (w : Shelved g.row.A.Denot). Contains (numbers_of w.shelves) c.args.number) c.self.view_is
      (found_is _ c.self.inside.shelves.items c.args.number _ c.deref.ensures.value c.place_of.ensures (sym c.is_some.ensures ∙ h)),
  λ h. c.is_some.ensures ∙ is_found _ c.self.inside.shelves.items c.args.number _ c.deref.ensures.value c.place_of.ensures
      (subst (λ (w : Shelved g.row.A.Denot). Contains (numbers_of w.shelves) c.args.number) (sym c.self.view_is) h),
)
