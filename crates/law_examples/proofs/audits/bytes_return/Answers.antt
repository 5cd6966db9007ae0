use Rattle.law_examples.proofs.Hiding.{comes_back}
use Rattle.law_examples.proofs.audits.bytes_return.Goals as goal

pub returns : goal.returns
returns c = comes_back c.place_laws.ensures c.run_laws.ensures.replays c.hiding_laws.ensures.returns
