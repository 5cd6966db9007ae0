use Rattle.law_examples.proofs.Stepping.{seen_alike}
use Rattle.law_examples.proofs.steps.seen_alike.Goals as goal

pub returns : goal.returns
returns c = seen_alike c.coalition_laws.ensures.served c.coalition_laws.ensures.holds c.coalition_laws.ensures.hears
