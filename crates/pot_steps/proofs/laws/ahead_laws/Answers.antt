use Rattle.pot_steps.proofs.AheadLemmas.{ahead_few, ahead_hops, ahead_none}
use Rattle.pot_steps.proofs.laws.ahead_laws.Goals as goal

pub returns : goal.returns
returns c = record { few = ahead_few; hops = ahead_hops; none = ahead_none }
