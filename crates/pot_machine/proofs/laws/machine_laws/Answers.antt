use Rattle.pot_machine.proofs.LeftAlone.{sizes_stay, slots_stay, digests_stay, data_stays, live_by_put, cursor_stays, columns_stay, relays_stay, parity_void, rules_stay, logs_went_on}
use Rattle.pot_machine.proofs.Logs.{logs_go_on, logs_lead_once, replayed_once, logs_come_to, replayed_append, own_append}
use Rattle.pot_machine.proofs.Filled.{digests_by_puts, puts_stay}
use Rattle.pot_machine.proofs.laws.machine_laws.Goals as goal

pub returns : goal.returns
returns c = record {
  sizes = sizes_stay;
  slots = slots_stay;
  digests = digests_stay;
  data_digests = data_stays;
  live = live_by_put;
  cursor = cursor_stays;
  columns = columns_stay;
  relays = relays_stay;
  parity = parity_void;
  rules = rules_stay;
  go_on = logs_go_on;
  went_on = logs_went_on;
  once = logs_lead_once;
  replayed_once = replayed_once;
  come_to = logs_come_to;
  come_on = replayed_append;
  own = own_append;
  by_puts = digests_by_puts;
  puts = puts_stay;
}
