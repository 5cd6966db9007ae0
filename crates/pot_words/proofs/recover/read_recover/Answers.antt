use Rattle.std.proofs.Common.{rules}
use Rattle.pot_words.specs.Tasks.{HasRecover, recover_names}
use Rattle.pot_words.proofs.TaskLemmas.{recover_unhyphened}
use Rattle.pot_words.proofs.ValueLemmas.{answered, unanswered}
use Rattle.pot_words.proofs.recover.read_recover.Goals as goal

pub returns-in-Some : goal.returns-in-Some
returns-in-Some c = answered recover_names HasRecover (λ t value. recover_unhyphened value t) _ _ c.in-Some.options c.recover_of.result (search rules) (rw c.in-Some.is at c.in_ok-options.ensures) c.recover_of.ensures

pub returns-in-None : goal.returns-in-None
returns-in-None c = unanswered recover_names HasRecover (λ t value. recover_unhyphened value t) _ _ (search rules) (rw c.in-None.is at c.in_ok-options.ensures)
