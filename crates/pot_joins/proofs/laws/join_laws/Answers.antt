use Rattle.pot_joins.proofs.JoinLemmas.{join_laws}
use Rattle.pot_joins.proofs.laws.join_laws.Goals as goal

pub returns : goal.returns
returns c = join_laws
