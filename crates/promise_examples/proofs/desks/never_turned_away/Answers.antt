use Rattle.promise_examples.proofs.Rerun.{never_turned_away}
use Rattle.promise_examples.proofs.desks.never_turned_away.Goals as goal

pub returns : goal.returns
returns c = never_turned_away c.run_laws.ensures.stay_good c.run_laws.ensures.never_refused
