use Rattle.law_examples.proofs.Onward.{is_published}
use Rattle.law_examples.proofs.forward.place_published.Goals as goal

pub returns : goal.returns
returns c = is_published c.place_laws.ensures c.forward_laws.ensures.places
