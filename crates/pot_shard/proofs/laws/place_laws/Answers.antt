use Rattle.pot_shard.proofs.PlaceLemmas.{place_laws}
use Rattle.pot_shard.proofs.laws.place_laws.Goals as goal

pub returns : goal.returns
returns c = place_laws
