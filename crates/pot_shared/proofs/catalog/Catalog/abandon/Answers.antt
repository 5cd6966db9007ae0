use Rattle.std.proofs.Common.{inr}
use Rattle.pot_shared.proofs.CatalogLemmas.{keeps_small}
use Rattle.pot_shared.proofs.catalog.Catalog.abandon.Goals as goal

pub invariant_of-self : goal.invariant_of-self
invariant_of-self g c = keeps_small c.self.inside.index c.abandon.new.self c.self.inside.kept (inr (_, c.abandon.ensures)) c.self.invariant
