use Rattle.law_examples.proofs.Stepping.{blinds_hidden}
use Rattle.law_examples.proofs.steps.blinds_hidden.Goals as goal

pub returns : goal.returns
returns c = blinds_hidden c.coalition_laws.ensures.exchange c.coalition_laws.ensures.hidden c.coalition_laws.ensures.fixed
