use Rattle.pot_work.proofs.Claiming.{begins}
use Rattle.pot_work.proofs.rooms.take_rooms.Goals as goal

pub ruled-requires-clause-rule : goal.ruled-requires-clause-rule
ruled-requires-clause-rule g c = begins
