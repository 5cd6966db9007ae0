use Rattle.promise_examples.proofs.Rerun.{none_is_refused, none_is_refused_next}
use Rattle.promise_examples.proofs.desks.none_is_refused.Goals as goal

pub returns-clause-here : goal.returns-clause-here
returns-clause-here c = none_is_refused c.run_laws.ensures.answered

pub returns-clause-next : goal.returns-clause-next
returns-clause-next c = none_is_refused_next c.run_laws.ensures.next_answered
