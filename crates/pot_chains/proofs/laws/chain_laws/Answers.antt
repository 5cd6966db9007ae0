use Rattle.pot_chains.proofs.ChainLemmas.{chain_laws}
use Rattle.pot_chains.proofs.laws.chain_laws.Goals as goal

pub returns : goal.returns
returns c = chain_laws
