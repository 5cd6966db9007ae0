use Rattle.promise_examples.proofs.Opened.{opening_says_gone}
use Rattle.promise_examples.proofs.archives.opening_says_gone.Goals as goal

pub returns : goal.returns
returns c = opening_says_gone c.opening_laws.ensures
