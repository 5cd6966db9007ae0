use Rattle.std.proofs.Common.{sym, ◌∙◌}
use Rattle.pot_session.proofs.TopLemmas.{room_code}
use Rattle.pot_session.proofs.top.run.Goals as goal

pub returns-clause-own : goal.returns-clause-own
returns-clause-own g c = λ e. c.answer-status.ensures.own (room_code c.answer-status.result (sym c.code.ensures ∙ e))
