use Rattle.promise_examples.proofs.Counted.{fault_is_counted}
use Rattle.promise_examples.proofs.archives.fault_is_counted.Goals as goal

pub returns : goal.returns
returns c = fault_is_counted c.fault_laws.ensures
