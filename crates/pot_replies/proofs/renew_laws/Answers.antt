use Rattle.pot_replies.proofs.RenewStanding.{renewed_stands, often_stands, often_late_stands, renew_index_full_stands, renew_fault_stands, renew_full_stands, renew_log_full_stands}
use Rattle.pot_replies.proofs.renew_laws.Goals as goal

pub returns : goal.returns
returns c = record {
  renewed = renewed_stands;
  often = often_stands;
  often_late = often_late_stands;
  index_full = renew_index_full_stands;
  fault = renew_fault_stands;
  full = renew_full_stands;
  log_full = renew_log_full_stands;
}
