use Rattle.pot_refinement.proofs.Simulating.{follows_all}
use Rattle.pot_refinement.proofs.laws.execution_simulated.Goals as goal

pub returns : goal.returns
returns c = follows_all
