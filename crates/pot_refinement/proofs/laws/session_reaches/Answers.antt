use Rattle.pot_refinement.proofs.Sessions.{session_reaches}
use Rattle.pot_refinement.proofs.laws.session_reaches.Goals as goal

pub returns : goal.returns
returns c = session_reaches
