use Rattle.pot_promises.proofs.Stretching.{blinds_of_run, streams_apart}
use Rattle.pot_promises.proofs.stretch_laws.Goals as goal

pub returns : goal.returns
returns c = record { run = blinds_of_run; streams = streams_apart }
