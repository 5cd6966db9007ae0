use Rattle.pot_theorem.proofs.Hard.{the_hard_property}
use Rattle.pot_theorem.proofs.the_hard_property.Goals as goal

pub returns : goal.returns
returns c = the_hard_property
