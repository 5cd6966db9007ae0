use Rattle.std.proofs.Common.{rules}
use Rattle.pot_words.specs.Tasks.{HasDrill, drill_names}
use Rattle.pot_words.proofs.TaskLemmas.{drill_unhyphened}
use Rattle.pot_words.proofs.ValueLemmas.{answered, unanswered}
use Rattle.pot_words.proofs.drill.read_drill.Goals as goal

pub returns-in-Some : goal.returns-in-Some
returns-in-Some c = answered drill_names HasDrill (λ t value. drill_unhyphened value t) _ _ c.in-Some.options c.drill_of.result (search rules) (rw c.in-Some.is at c.in_ok-options.ensures) c.drill_of.ensures

pub returns-in-None : goal.returns-in-None
returns-in-None c = unanswered drill_names HasDrill (λ t value. drill_unhyphened value t) _ _ (search rules) (rw c.in-None.is at c.in_ok-options.ensures)
