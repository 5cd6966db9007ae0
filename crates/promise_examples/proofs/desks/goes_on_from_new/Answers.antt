use Rattle.promise_examples.proofs.Rerun.{goes_on_from_new}
use Rattle.promise_examples.proofs.desks.goes_on_from_new.Goals as goal

pub returns : goal.returns
returns c = goes_on_from_new c.run_laws.ensures.go_later
