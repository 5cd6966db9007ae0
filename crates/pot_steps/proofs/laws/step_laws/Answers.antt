use Rattle.pot_steps.proofs.StepsKeep.{logged_keeps, begin_step_keeps, advance_step_keeps, mend_step_keeps, bring_step_keeps, move_step_keeps}
use Rattle.pot_steps.proofs.laws.step_laws.Goals as goal

pub returns : goal.returns
returns c = record { logged = logged_keeps; begin = begin_step_keeps; advance = advance_step_keeps; mend = mend_step_keeps; bring = bring_step_keeps; moved = move_step_keeps }
