use Rattle.pot_steps.proofs.Standing.{next_is_next, none_is_no_next, standing_is_relay, begin_has_few}
use Rattle.pot_steps.proofs.laws.relay_laws.Goals as goal

pub returns : goal.returns
returns c = record { next = next_is_next; none = none_is_no_next; standing = standing_is_relay; few = begin_has_few }
