use Rattle.law_examples.proofs.Storing.{written}
use Rattle.law_examples.proofs.stored.store_written.Goals as goal

pub returns : goal.returns
returns c = written c.place_laws.ensures c.run_laws.ensures.writes
