use Rattle.pot_shard.proofs.FetchLemmas.{fetch_laws}
use Rattle.pot_shard.proofs.laws.fetch_laws.Goals as goal

pub returns : goal.returns
returns c = fetch_laws
