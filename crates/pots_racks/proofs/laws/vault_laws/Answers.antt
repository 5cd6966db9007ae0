use Rattle.pots_racks.proofs.TextLemmas.{one_count}
use Rattle.pots_racks.proofs.laws.vault_laws.Goals as goal

pub returns : goal.returns
returns c = one_count
