use Rattle.promise_examples.proofs.Rerun.{good_is_written}
use Rattle.promise_examples.proofs.desks.good_is_written.Goals as goal

pub returns : goal.returns
returns c = good_is_written c.run_laws.ensures.sessions
