use Rattle.promise_examples.proofs.Filed.{given_back, given_back_later}
use Rattle.promise_examples.proofs.files.given_back.Goals as goal

pub returns-clause-here : goal.returns-clause-here
returns-clause-here c = given_back c.file_laws.ensures.gives_back

pub returns-clause-later : goal.returns-clause-later
returns-clause-later c = given_back_later c.file_laws.ensures.gives_back_later
