use Rattle.pot_promises.proofs.Answering.{never_refused, next_is_answered, runs_are_answered}
use Rattle.pot_promises.proofs.Rechecking.{rechecks_begin, rechecks_go_on, runs_go_on}
use Rattle.pot_promises.proofs.Running.{careful_keeps, desks_stay_good, runs_are_sessions, runs_go_later, runs_may_close}
use Rattle.pot_promises.proofs.run_laws.Goals as goal

pub returns : goal.returns
returns c = record {
  sessions = runs_are_sessions;
  may_close = runs_may_close;
  careful = careful_keeps;
  go_on = runs_go_on;
  go_later = runs_go_later;
  rechecks_go_on = rechecks_go_on;
  rechecks_begin = rechecks_begin;
  stay_good = desks_stay_good;
  never_refused = never_refused;
  answered = runs_are_answered;
  next_answered = next_is_answered;
}
