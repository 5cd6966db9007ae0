use Rattle.pot_split.proofs.SplitLaws.{threshold_laws}
use Rattle.pot_split.proofs.threshold.threshold_laws.Goals as goal

pub returns : goal.returns
returns c = threshold_laws
