use Rattle.pot_refinement.proofs.Ended.{first_session}
use Rattle.pot_refinement.proofs.laws.first_session.Goals as goal

pub returns : goal.returns
returns c = first_session
