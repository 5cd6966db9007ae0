use Rattle.pot_steps.proofs.MendingRuns.{mending}
use Rattle.pot_steps.proofs.laws.mending_laws.Goals as goal

pub returns : goal.returns
returns c = mending
