use Rattle.law_examples.proofs.Stepping.{keeps_block}
use Rattle.law_examples.proofs.steps.block_kept.Goals as goal

pub returns : goal.returns
returns c = keeps_block c.place_laws.ensures
