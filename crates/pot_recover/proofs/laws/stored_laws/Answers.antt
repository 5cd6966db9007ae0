use Rattle.pot_recover.proofs.StoredLemmas.{stored_laws}
use Rattle.pot_recover.proofs.laws.stored_laws.Goals as goal

pub returns : goal.returns
returns c = stored_laws
