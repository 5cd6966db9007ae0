use Rattle.pot_world.proofs.Auditing.{first_both}
use Rattle.pot_world.proofs.Later.{first_reopened, reopened_both, runs_seen_on, sessions_seen_same}
use Rattle.pot_world.proofs.laws.later_laws.Goals as goal

pub returns : goal.returns
returns c = record { first = first_both; runs = runs_seen_on; reopened = reopened_both; anew = first_reopened; sessions = sessions_seen_same }
