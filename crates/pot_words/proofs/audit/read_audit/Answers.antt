use Rattle.std.proofs.Common.{rules}
use Rattle.pot_words.specs.Tasks.{HasAudit, audit_names}
use Rattle.pot_words.proofs.TaskLemmas.{audit_unhyphened}
use Rattle.pot_words.proofs.ValueLemmas.{answered, unanswered}
use Rattle.pot_words.proofs.audit.read_audit.Goals as goal

pub returns-in-Some : goal.returns-in-Some
returns-in-Some c = answered audit_names HasAudit (λ t value. audit_unhyphened value t) _ _ c.in-Some.options c.audit_of.result (search rules) (rw c.in-Some.is at c.in_ok-options.ensures) c.audit_of.ensures

pub returns-in-None : goal.returns-in-None
returns-in-None c = unanswered audit_names HasAudit (λ t value. audit_unhyphened value t) _ _ (search rules) (rw c.in-None.is at c.in_ok-options.ensures)
