use Rattle.pot_recover.proofs.LinkLemmas.{link_laws}
use Rattle.pot_recover.proofs.laws.link_laws.Goals as goal

pub returns : goal.returns
returns c = link_laws
