use Rattle.pot_chains.proofs.PickLemmas.{pick_laws}
use Rattle.pot_chains.proofs.laws.pick_laws.Goals as goal

pub returns : goal.returns
returns c = pick_laws
