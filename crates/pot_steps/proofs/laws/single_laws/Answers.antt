use Rattle.pot_steps.proofs.Single.{single_whole, single_but}
use Rattle.pot_steps.proofs.laws.single_laws.Goals as goal

pub returns : goal.returns
returns c = record { whole = single_whole; but_one = single_but }
