use Rattle.pot_refinement.proofs.Ended.{sessions_reach}
use Rattle.pot_refinement.proofs.laws.sessions_reach.Goals as goal

pub returns : goal.returns
returns c = sessions_reach
