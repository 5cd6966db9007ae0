use Rattle.pot_split.proofs.SplitLaws.{secrecy_laws}
use Rattle.pot_split.proofs.secrecy.secrecy_laws.Goals as goal

pub returns : goal.returns
returns c = secrecy_laws
