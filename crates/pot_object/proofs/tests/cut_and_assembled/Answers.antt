use Rattle.std.proofs.Common.{refl, sym, subst, ◌∙◌}
use Rattle.pot_object.specs.Assembly.{IsSeries}
use Rattle.pot_object.proofs.LawLemmas.{IsSeries-objects_of}
use Rattle.pot_object.proofs.tests.cut_and_assembled.Goals as goal

pub assemble-requires : goal.assemble-requires
assemble-requires c =
    subst IsSeries (sym (c.deref.ensures.value ∙ c.in_ok-objects_in_order-in-Ok.ensures))
    (IsSeries-objects_of _ c.args.file.now (record { whole = refl; fits = c.requires }))
