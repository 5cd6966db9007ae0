use Rattle.pot_promises.proofs.Losing.{lost_is_few}
use Rattle.pot_promises.proofs.lost_laws.Goals as goal

pub returns : goal.returns
returns c = lost_is_few
