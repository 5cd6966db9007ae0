use Rattle.std.proofs.Common.{ap, ◌∙◌}
use Rattle.pot_shared.specs.Catalogs.{CatalogView}
use Rattle.pot_shared.proofs.CatalogLemmas.{keeps_published, keeps_tied, file_heard, mine_more}
use Rattle.pot_shared.proofs.catalog.Catalog.publish.Goals as goal

pub invariant_of-self : goal.invariant_of-self
invariant_of-self g c =
    let same = ap (λ (v : CatalogView). v.kept.names) c.self.view_is ∙ c.requires.names in
    keeps_published c.self.inside.index c.args.job c.args.kept c.publish.new.self c.tie.new.others c.publish.ensures
    (file_heard c.args.self.now.index.rack c.args.groups.now.names c.args.passes.now c.self.inside.kept c.tie.new.mine c.tie.new.others
    c.tie.ensures.own.0 c.tie.ensures.own.1 c.requires.ready same c.tie.ensures.tied c.self.inside.index c.self.invariant c.args.kept c.requires.seen) c.requires.once
    (keeps_tied c.args.self.now.index.rack c.args.groups.now.names c.args.passes.now c.self.inside.kept c.tie.new.mine c.tie.new.others
    c.tie.ensures.own.0 c.tie.ensures.own.1 c.requires.ready same c.tie.ensures.tied c.self.inside.index c.self.invariant)

pub returns-clause-tied : goal.returns-clause-tied
returns-clause-tied g c =
    let same = ap (λ (v : CatalogView). v.kept.names) c.self.view_is ∙ c.requires.names in
    mine_more c.args.self.now.index.rack c.args.groups.now.names c.args.passes.now c.self.inside.kept c.tie.new.mine c.tie.new.others
    c.tie.ensures.own.0 c.tie.ensures.own.1 c.requires.ready same c.tie.ensures.tied
