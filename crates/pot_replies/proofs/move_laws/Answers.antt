use Rattle.pot_replies.proofs.ScrubStanding.{migrated_stands, step_log_full_stands}
use Rattle.pot_replies.proofs.move_laws.Goals as goal

pub returns-clause-migrated : goal.returns-clause-migrated
returns-clause-migrated c = migrated_stands

pub returns-clause-step_log_full : goal.returns-clause-step_log_full
returns-clause-step_log_full c = step_log_full_stands
