use Rattle.run_examples.proofs.InWorld.{put_in_world}
use Rattle.run_examples.proofs.put_in_world.Goals as goal

pub returns : goal.returns
returns c = put_in_world c.runs_reach.ensures c.the_hard_property.ensures
