use Rattle.promise_examples.proofs.Filed.{batch_odd_has_cause, next_renewed_odd_has_cause, renewed_odd_has_cause}
use Rattle.promise_examples.proofs.files.renewed_odd_has_cause.Goals as goal

pub returns-clause-batch : goal.returns-clause-batch
returns-clause-batch c = batch_odd_has_cause c.odd_laws.ensures.odd_reads c.odd_laws.ensures.together

pub returns-clause-here : goal.returns-clause-here
returns-clause-here c = renewed_odd_has_cause c.odd_laws.ensures.odd_reads c.odd_laws.ensures.renewed_shows c.odd_laws.ensures.renewed

pub returns-clause-later : goal.returns-clause-later
returns-clause-later c = next_renewed_odd_has_cause c.odd_laws.ensures.odd_reads c.odd_laws.ensures.renewed_shows c.odd_laws.ensures.renewed_later
