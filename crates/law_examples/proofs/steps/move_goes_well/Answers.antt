use Rattle.law_examples.proofs.Stepping.{goes_well}
use Rattle.law_examples.proofs.steps.move_goes_well.Goals as goal

pub returns : goal.returns
returns c = goes_well c.move_laws.ensures c.stock_laws.ensures.moves c.group_laws.ensures.holds
