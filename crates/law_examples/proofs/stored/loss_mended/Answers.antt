use Rattle.law_examples.proofs.Storing.{is_back}
use Rattle.law_examples.proofs.stored.loss_mended.Goals as goal

pub returns : goal.returns
returns c = is_back c.place_laws.ensures c.run_laws.ensures.mends
