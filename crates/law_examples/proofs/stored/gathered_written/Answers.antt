use Rattle.law_examples.proofs.Storing.{gathered_is}
use Rattle.law_examples.proofs.stored.gathered_written.Goals as goal

pub returns : goal.returns
returns c = gathered_is c.place_laws.ensures c.run_laws.ensures.writes c.run_laws.ensures.gathers c.run_laws.ensures.one
