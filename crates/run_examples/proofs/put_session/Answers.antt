use Rattle.run_examples.proofs.OnePut.{put_session}
use Rattle.run_examples.proofs.put_session.Goals as goal

pub returns : goal.returns
returns c = put_session c.the_hard_property.ensures c.frame_laws.ensures.run
