use Rattle.pots_rescue.proofs.Stopped.{stopped_bears}
use Rattle.pots_rescue.proofs.laws.stopping_laws.Goals as goal

pub returns : goal.returns
returns c = stopped_bears
