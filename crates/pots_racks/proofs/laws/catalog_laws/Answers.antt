use Rattle.pots_racks.proofs.CatalogLemmas.{tells_one}
use Rattle.pots_racks.proofs.laws.catalog_laws.Goals as goal

pub returns : goal.returns
returns c = tells_one
