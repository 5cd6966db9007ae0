use Rattle.std.proofs.Common.{ap, ◌∙◌, subst, sym}
use Rattle.pot_shared.specs.Catalogs.{AreTold, CatalogView, Publishes}
use Rattle.pot_shared.proofs.CatalogLemmas.{keeps_small, finds_small, keeps_tied, mine_more, file_told}
use Rattle.pot_shared.proofs.catalog.Catalog.find.Goals as goal

pub invariant_of-self : goal.invariant_of-self
invariant_of-self g c =
    let same = ap (λ (v : CatalogView). v.kept.names) c.self.view_is ∙ c.requires.names in
    keeps_small c.self.inside.index c.find.new.self c.tie.new.others
    (finds_small c.args.job c.args.name.now c.self.inside.index c.find.new.self c.find.result c.find.ensures)
    (keeps_tied c.args.self.now.index.rack c.args.groups.now.names c.args.passes.now c.self.inside.kept c.tie.new.mine c.tie.new.others
    c.tie.ensures.own.0 c.tie.ensures.own.1 c.requires.ready same c.tie.ensures.tied c.self.inside.index c.self.invariant)

pub returns-clause-tied : goal.returns-clause-tied
returns-clause-tied g c =
    let same = ap (λ (v : CatalogView). v.kept.names) c.self.view_is ∙ c.requires.names in
    mine_more c.args.self.now.index.rack c.args.groups.now.names c.args.passes.now c.self.inside.kept c.tie.new.mine c.tie.new.others
    c.tie.ensures.own.0 c.tie.ensures.own.1 c.requires.ready same c.tie.ensures.tied

pub returns-clause-seen : goal.returns-clause-seen
returns-clause-seen g c = λ r p.
    let same = ap (λ (v : CatalogView). v.kept.names) c.self.view_is ∙ c.requires.names in
    file_told c.args.self.now.index.rack c.args.groups.now.names c.args.passes.now c.self.inside.kept c.tie.new.mine c.tie.new.others
    c.tie.ensures.own.0 c.tie.ensures.own.1 c.requires.ready same c.tie.ensures.tied r
    (c.self.invariant.seen r (subst (λ (v : CatalogView). Publishes v.index.log r) (sym c.self.view_is) p))

pub returns-clause-told : goal.returns-clause-told
returns-clause-told g c = subst (λ (v : CatalogView). AreTold v.index) c.self.view_is c.self.invariant.told
