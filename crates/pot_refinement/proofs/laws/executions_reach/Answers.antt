use Rattle.pot_refinement.proofs.Executions.{executions_reach}
use Rattle.pot_refinement.proofs.laws.executions_reach.Goals as goal

pub returns : goal.returns
returns c = executions_reach
