use Rattle.law_examples.proofs.Stepping.{mends_back}
use Rattle.law_examples.proofs.steps.mends_back.Goals as goal

pub returns : goal.returns
returns c = mends_back c.bound_laws.ensures
