use Rattle.pot_refinement.proofs.Ended.{next_session}
use Rattle.pot_refinement.proofs.laws.next_session.Goals as goal

pub returns : goal.returns
returns c = next_session
