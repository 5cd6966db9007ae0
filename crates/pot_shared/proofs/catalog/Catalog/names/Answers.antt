use Rattle.pot_shared.proofs.CatalogLemmas.{keeps_small, lists_small}
use Rattle.pot_shared.proofs.catalog.Catalog.names.Goals as goal

pub invariant_of-self : goal.invariant_of-self
invariant_of-self g c =
    keeps_small c.self.inside.index c.names.new.self c.self.inside.kept
    (lists_small c.args.job c.self.inside.index c.names.new.self c.names.result c.names.ensures) c.self.invariant
