use Rattle.pot_refinement.proofs.Clean.{well_by_log}
use Rattle.pot_refinement.proofs.laws.well_by_log.Goals as goal

pub returns : goal.returns
returns c = well_by_log
