use Rattle.run_examples.proofs.Another.{another_stands}
use Rattle.run_examples.proofs.another_stands.Goals as goal

pub returns : goal.returns
returns c = another_stands c.the_hard_property.ensures
