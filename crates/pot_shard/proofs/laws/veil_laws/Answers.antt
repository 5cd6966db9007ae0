use Rattle.pot_shard.proofs.VeilLemmas.{veil_laws}
use Rattle.pot_shard.proofs.laws.veil_laws.Goals as goal

pub returns : goal.returns
returns c = veil_laws
