use Rattle.law_examples.proofs.Stepping.{ends_well}
use Rattle.law_examples.proofs.steps.relay_ends_well.Goals as goal

pub returns : goal.returns
returns c = ends_well c.group_laws.ensures.flies c.group_laws.ensures.odd
