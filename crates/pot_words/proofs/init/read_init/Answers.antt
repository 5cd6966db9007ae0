use Rattle.std.proofs.Common.{rules}
use Rattle.pot_words.specs.Tasks.{HasInit, init_names}
use Rattle.pot_words.proofs.TaskLemmas.{init_unhyphened}
use Rattle.pot_words.proofs.ValueLemmas.{answered, unanswered}
use Rattle.pot_words.proofs.init.read_init.Goals as goal

pub returns-in-Some : goal.returns-in-Some
returns-in-Some c = answered init_names HasInit (λ t value. init_unhyphened value t) _ _ c.in-Some.options c.rack_of.result (search rules) (rw c.in-Some.is at c.in_ok-options.ensures) c.rack_of.ensures

pub returns-in-None : goal.returns-in-None
returns-in-None c = unanswered init_names HasInit (λ t value. init_unhyphened value t) _ _ (search rules) (rw c.in-None.is at c.in_ok-options.ensures)
