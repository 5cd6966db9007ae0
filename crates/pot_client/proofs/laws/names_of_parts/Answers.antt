use Rattle.pot_client.proofs.NameLemmas.{never_own, same_part}
use Rattle.pot_client.proofs.laws.names_of_parts.Goals as goal

pub returns-clause-differ : goal.returns-clause-differ
returns-clause-differ c = same_part

pub returns-clause-own : goal.returns-clause-own
returns-clause-own c = never_own
