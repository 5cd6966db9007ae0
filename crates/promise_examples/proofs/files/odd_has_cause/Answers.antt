use Rattle.promise_examples.proofs.Filed.{next_odd_has_cause, odd_has_cause}
use Rattle.promise_examples.proofs.files.odd_has_cause.Goals as goal

pub returns-clause-here : goal.returns-clause-here
returns-clause-here c = odd_has_cause c.odd_laws.ensures.odd_reads c.odd_laws.ensures.never_odd

pub returns-clause-later : goal.returns-clause-later
returns-clause-later c = next_odd_has_cause c.odd_laws.ensures.odd_reads c.odd_laws.ensures.never_odd_later
