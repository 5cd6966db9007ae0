use Rattle.pot_refinement.proofs.Sessions.{reopened_simulates}
use Rattle.pot_refinement.proofs.laws.reopened_simulates.Goals as goal

pub returns : goal.returns
returns c = reopened_simulates
