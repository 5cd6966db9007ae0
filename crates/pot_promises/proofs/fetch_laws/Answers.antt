use Rattle.pot_promises.proofs.Fetching.{fetch_answers}
use Rattle.pot_promises.proofs.fetch_laws.Goals as goal

pub returns : goal.returns
returns c = fetch_answers
