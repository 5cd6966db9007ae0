use Rattle.std.proofs.Common.{ap, ◌∙◌, subst, sym}
use Rattle.pot_index.specs.Index.{IsIndex}
use Rattle.pot_shared.specs.Catalogs.{CatalogView}
use Rattle.pot_shared.specs.IndexCalls.{MayRenew}
use Rattle.pot_shared.proofs.CatalogLemmas.{keeps_renewed, keeps_tied, file_heard, mine_more}
use Rattle.pot_shared.proofs.catalog.Catalog.renew.Goals as goal

pub renew-requires : goal.renew-requires
renew-requires g c =
    let may = subst (λ (v : CatalogView). MayRenew v.index.rack v.index.now c.args.name.now c.args.split c.args.passes.now) (sym c.self.view_is) c.requires.renews in
    (may.0, may.1, may.2)

pub invariant_of-self : goal.invariant_of-self
invariant_of-self g c =
    let same = ap (λ (v : CatalogView). v.kept.names) c.self.view_is ∙ c.requires.names in
    let may = subst (λ (v : CatalogView). MayRenew v.index.rack v.index.now c.args.name.now c.args.split c.args.passes.now) (sym c.self.view_is) c.requires.renews in
    keeps_renewed c.self.inside.index c.args.job c.args.name.now c.args.split c.renew.result c.renew.new.self c.tie.new.others may.0
    (subst (λ (v : CatalogView). IsIndex v.index) (sym c.self.view_is) c.requires.rules) c.renew.ensures may.1
    (file_heard c.args.self.now.index.rack c.args.groups.now.names c.args.passes.now c.self.inside.kept c.tie.new.mine c.tie.new.others
    c.tie.ensures.own.0 c.tie.ensures.own.1 c.requires.ready same c.tie.ensures.tied c.self.inside.index c.self.invariant _ may.3)
    (keeps_tied c.args.self.now.index.rack c.args.groups.now.names c.args.passes.now c.self.inside.kept c.tie.new.mine c.tie.new.others
    c.tie.ensures.own.0 c.tie.ensures.own.1 c.requires.ready same c.tie.ensures.tied c.self.inside.index c.self.invariant)

pub returns-clause-tied : goal.returns-clause-tied
returns-clause-tied g c =
    let same = ap (λ (v : CatalogView). v.kept.names) c.self.view_is ∙ c.requires.names in
    mine_more c.args.self.now.index.rack c.args.groups.now.names c.args.passes.now c.self.inside.kept c.tie.new.mine c.tie.new.others
    c.tie.ensures.own.0 c.tie.ensures.own.1 c.requires.ready same c.tie.ensures.tied
