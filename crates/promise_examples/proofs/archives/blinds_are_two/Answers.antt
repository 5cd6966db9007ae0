use Rattle.promise_examples.proofs.Blinded.{blinds_are_two}
use Rattle.promise_examples.proofs.archives.blinds_are_two.Goals as goal

pub returns : goal.returns
returns c = blinds_are_two c.stretch_laws.ensures.run
