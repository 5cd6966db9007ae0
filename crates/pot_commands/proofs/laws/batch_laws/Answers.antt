use Rattle.pot_commands.proofs.BatchLemmas.{jobs_widen}
use Rattle.pot_commands.proofs.BatchStanding.{answers_widen}
use Rattle.pot_commands.proofs.BatchRows.{batch_gives, batch_leaves}
use Rattle.pot_commands.proofs.laws.batch_laws.Goals as goal

pub returns-clause-widen : goal.returns-clause-widen
returns-clause-widen g = jobs_widen

pub returns-clause-stand : goal.returns-clause-stand
returns-clause-stand g = answers_widen

pub returns-clause-gives : goal.returns-clause-gives
returns-clause-gives g = batch_gives

pub returns-clause-leaves : goal.returns-clause-leaves
returns-clause-leaves g = batch_leaves
