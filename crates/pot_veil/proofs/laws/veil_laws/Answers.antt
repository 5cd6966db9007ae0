use Rattle.pot_veil.proofs.Veiling.{veil_laws}
use Rattle.pot_veil.proofs.laws.veil_laws.Goals as goal

pub returns : goal.returns
returns c = veil_laws
