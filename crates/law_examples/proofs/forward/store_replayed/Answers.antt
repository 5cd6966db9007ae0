use Rattle.law_examples.proofs.Onward.{is_replayed}
use Rattle.law_examples.proofs.forward.store_replayed.Goals as goal

pub returns : goal.returns
returns c = is_replayed c.place_laws.ensures c.run_laws.ensures.settles c.run_laws.ensures.replays
