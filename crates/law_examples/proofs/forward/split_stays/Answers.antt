use Rattle.law_examples.proofs.Onward.{split_stays}
use Rattle.law_examples.proofs.forward.split_stays.Goals as goal

pub returns : goal.returns
returns c = split_stays c.place_laws.ensures c.forward_laws.ensures.stay
