use Rattle.pot_desk_shares.proofs.SetLemmas.{veil_laws}
use Rattle.pot_desk_shares.proofs.laws.veil_laws.Goals as goal

pub returns : goal.returns
returns c = veil_laws
