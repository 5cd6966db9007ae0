use Rattle.pot_client.proofs.PartLemmas.{parts_join}
use Rattle.pot_client.proofs.parts.parts_are_whole.Goals as goal

pub returns : goal.returns
returns c = parts_join
