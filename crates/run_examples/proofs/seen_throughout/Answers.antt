use Rattle.run_examples.proofs.Throughout.{seen_throughout}
use Rattle.run_examples.proofs.seen_throughout.Goals as goal

pub returns : goal.returns
returns c = seen_throughout c.the_hard_property.ensures
