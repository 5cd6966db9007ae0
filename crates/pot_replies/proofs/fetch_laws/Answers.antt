use Rattle.pot_replies.proofs.Alike.{read_as_put}
use Rattle.pot_replies.proofs.Excluding.{lost_not_fault}
use Rattle.pot_replies.proofs.FetchStanding.{file_stands, odd_stands, lost_stands, fetch_fault_stands, fetch_log_full_stands}
use Rattle.pot_replies.proofs.fetch_laws.Goals as goal

pub returns : goal.returns
returns c = record { file = file_stands; odd = odd_stands; lost = lost_stands; fault = fetch_fault_stands; log_full = fetch_log_full_stands; either = lost_not_fault; digests = read_as_put }
