use Rattle.pot_promises.proofs.Veils.{stays_veiled}
use Rattle.pot_promises.proofs.veil_laws.Goals as goal

pub returns : goal.returns
returns c = record { stays_veiled = stays_veiled }
