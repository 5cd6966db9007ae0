use Rattle.pot_steps.proofs.Listening.{flight_hands, listener_fits}
use Rattle.pot_steps.proofs.laws.listener_laws.Goals as goal

pub returns : goal.returns
returns c = record { hands = flight_hands; fits = listener_fits }
