use Rattle.pot_shard.proofs.StretchLemmas.{stretch_laws}
use Rattle.pot_shard.proofs.laws.stretch_laws.Goals as goal

pub returns : goal.returns
returns c = stretch_laws
