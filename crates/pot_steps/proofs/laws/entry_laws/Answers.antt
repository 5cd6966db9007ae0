use Rattle.pot_steps.proofs.Entries.{entry_keeps, entry_keeps_flight, losses_keep}
use Rattle.pot_steps.proofs.laws.entry_laws.Goals as goal

pub returns : goal.returns
returns c = record { entry = entry_keeps; losses = losses_keep; flight = entry_keeps_flight }
