use Rattle.promise_examples.proofs.Few.{lost_saw_few}
use Rattle.promise_examples.proofs.archives.lost_saw_few.Goals as goal

pub returns : goal.returns
returns c = lost_saw_few c.lost_laws.ensures
