use Rattle.pot_bytes.proofs.WeightedLemmas.{weighted_laws}
use Rattle.pot_bytes.proofs.weighted.weighted_laws.Goals as goal

pub returns : goal.returns
returns c = weighted_laws
