use Rattle.std.proofs.Common.{rules}
use Rattle.pot_words.specs.Tasks.{HasRun, run_names}
use Rattle.pot_words.proofs.TaskLemmas.{run_unhyphened}
use Rattle.pot_words.proofs.ValueLemmas.{answered, unanswered}
use Rattle.pot_words.proofs.run.read_run.Goals as goal

pub returns-in-Some : goal.returns-in-Some
returns-in-Some c = answered run_names HasRun (λ t value. run_unhyphened value t) _ _ c.in-Some.options c.run_of.result (search rules) (rw c.in-Some.is at c.in_ok-options.ensures) c.run_of.ensures

pub returns-in-None : goal.returns-in-None
returns-in-None c = unanswered run_names HasRun (λ t value. run_unhyphened value t) _ _ (search rules) (rw c.in-None.is at c.in_ok-options.ensures)
