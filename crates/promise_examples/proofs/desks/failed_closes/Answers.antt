use Rattle.promise_examples.proofs.Rerun.{failed_closes}
use Rattle.promise_examples.proofs.desks.failed_closes.Goals as goal

pub returns : goal.returns
returns c = failed_closes c.run_laws.ensures.may_close c.run_laws.ensures.careful
