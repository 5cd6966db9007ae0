use Rattle.law_examples.proofs.Storing.{gives}
use Rattle.law_examples.proofs.stored.fetch_gives.Goals as goal

pub returns : goal.returns
returns c = gives c.place_laws.ensures c.run_laws.ensures.joins c.run_laws.ensures.fetches
