use Rattle.pot_promises.proofs.TrueOpenings.{openings_are_true}
use Rattle.pot_promises.proofs.opening_laws.Goals as goal

pub returns : goal.returns
returns c = openings_are_true
