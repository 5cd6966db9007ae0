use Rattle.pot_shared.proofs.CatalogLemmas.{keeps_small, reserves_small}
use Rattle.pot_shared.proofs.catalog.Catalog.reserve.Goals as goal

pub invariant_of-self : goal.invariant_of-self
invariant_of-self g c =
    keeps_small c.self.inside.index c.reserve.new.self c.self.inside.kept
    (reserves_small c.args.job c.args.name.now c.self.inside.index c.reserve.new.self c.reserve.result c.reserve.ensures) c.self.invariant
