use Rattle.pot_script.proofs.BatchLemmas.{starts_batch}
use Rattle.pot_script.proofs.laws.batches_are_whole.Goals as goal

pub returns : goal.returns
returns c = starts_batch
