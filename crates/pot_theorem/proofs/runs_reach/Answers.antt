use Rattle.pot_theorem.proofs.Reaching.{runs_reach}
use Rattle.pot_theorem.proofs.runs_reach.Goals as goal

pub returns : goal.returns
returns c = runs_reach
