use Rattle.promise_examples.proofs.Rerun.{init_is_made, nothing_is_refused}
use Rattle.promise_examples.proofs.desks.init_is_made.Goals as goal

pub returns-clause-made : goal.returns-clause-made
returns-clause-made c = init_is_made c.word_laws.ensures

pub returns-clause-nothing : goal.returns-clause-nothing
returns-clause-nothing c = nothing_is_refused c.word_laws.ensures
