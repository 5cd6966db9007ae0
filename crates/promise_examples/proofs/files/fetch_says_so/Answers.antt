use Rattle.promise_examples.proofs.Filed.{fetch_says_so, next_fetch_says_so}
use Rattle.promise_examples.proofs.files.fetch_says_so.Goals as goal

pub returns-clause-here : goal.returns-clause-here
returns-clause-here c = fetch_says_so c.fetch_laws.ensures

pub returns-clause-later : goal.returns-clause-later
returns-clause-later c = next_fetch_says_so c.fetch_laws.ensures
