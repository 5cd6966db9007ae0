use Rattle.pot_shared.proofs.BlindLemmas.{blinds_quiet, quiet_then}
use Rattle.pot_store.proofs.fragments.see_points.Goals as goal

pub returns-in_err-look_at_points-clause-blinds : goal.returns-in_err-look_at_points-clause-blinds
returns-in_err-look_at_points-clause-blinds g c = blinds_quiet c.look_at_points.ensures.quiet

pub returns-clause-blinds : goal.returns-clause-blinds
returns-clause-blinds g c = quiet_then c.look_at_points.ensures.quiet c.mend_points.ensures.blinds
