use Rattle.pot_replies.proofs.ScrubStanding.{scrubbed_stands, scrub_fault_stands, scrub_log_full_stands, repaired_stands, repair_fault_stands, repair_log_full_stands}
use Rattle.pot_replies.proofs.scrub_laws.Goals as goal

pub returns : goal.returns
returns c = record {
  scrubbed = scrubbed_stands;
  fault = scrub_fault_stands;
  log_full = scrub_log_full_stands;
  repaired = repaired_stands;
  repair_fault = repair_fault_stands;
  repair_log_full = repair_log_full_stands;
}
