use Rattle.std.proofs.Common.{ap, ◌∙◌, subst}
use Rattle.pot_rows.specs.Parts.{RowJoined}
use Rattle.pot_shared.proofs.EndLemmas.{only_one}
use Rattle.pot_shared.specs.Catalogs.{CatalogView}
use Rattle.pot_shared.proofs.SharingLemmas.{back_again}
use Rattle.pot_shared.proofs.StartLemmas.{keeps_first}
use Rattle.pot_shared.proofs.starting.share_index.Goals as goal

pub invariant_of-push_reserved : goal.invariant_of-push_reserved
invariant_of-push_reserved g c =
    keeps_first c.args.rack.now c.args.groups.now.names c.args.passes.now c.in-Ok.kept c.args.index c.requires.ready c.in-Ok.ensures.given.0 c.in-Ok.ensures.given.1 c.requires.rack c.requires.log c.logged.ensures.rules c.requires.count

pub returns-in-Some-clause-refused : goal.returns-in-Some-clause-refused
returns-in-Some-clause-refused g c =
    let one = only_one c.start.new.values.items c.args.catalogs.now.items c.pop.new.self.items _ c.in-Some.catalog c.requires.room.0 (c.in-Err-start.ensures.back ∙ c.push_reserved.ensures.items) c.in-Some.ensures.items in (
      ap (λ (v : CatalogView). v.index) c.catalog.view_is ∙ ap (λ (v : CatalogView). v.index) one,
      back_again 2 c.args.groups.now.names c.args.passes.now c.split.new.passes c.in-Ok.kept c.join.new.passes c.requires.ready.of c.split.ensures.own c.in-Ok.ensures.given.0 c.join.ensures.own
          c.in-Ok.ensures.left c.in-Ok.ensures.given.1 (subst (λ r. RowJoined c.split.new.passes r c.join.new.passes) (ap (λ (v : CatalogView). v.kept) c.catalog.view_is ∙ ap (λ (v : CatalogView). v.kept) one) c.join.ensures.joined) c.requires.parts,
    )
