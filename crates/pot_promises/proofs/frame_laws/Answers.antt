use Rattle.pot_promises.proofs.Framing.{frame_of_run}
use Rattle.pot_promises.proofs.Serving.{blocks_remain, older_desk_finds, served_remain}
use Rattle.pot_promises.proofs.frame_laws.Goals as goal

pub returns : goal.returns
returns c = record { run = frame_of_run; remain = blocks_remain; served = served_remain; older = older_desk_finds }
