use Rattle.pot_recover.proofs.AlteredLemmas.{altered_laws}
use Rattle.pot_recover.proofs.laws.altered_laws.Goals as goal

pub returns : goal.returns
returns c = altered_laws
