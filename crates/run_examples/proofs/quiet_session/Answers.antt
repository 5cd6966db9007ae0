use Rattle.run_examples.proofs.Quiet.{quiet_session}
use Rattle.run_examples.proofs.quiet_session.Goals as goal

pub returns : goal.returns
returns c = quiet_session c.the_hard_property.ensures
