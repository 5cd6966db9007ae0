use Rattle.pot_recover.proofs.OpenLaws.{open_laws}
use Rattle.pot_recover.proofs.laws.open_laws.Goals as goal

pub returns : goal.returns
returns c = open_laws
