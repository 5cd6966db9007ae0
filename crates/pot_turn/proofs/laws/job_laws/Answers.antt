use Rattle.pot_turn.proofs.JobParts.{idle_logs_nothing, part_begins, part_splits, part_enters, part_logs, part_stays, parts_join, part_is_all}
use Rattle.pot_turn.proofs.laws.job_laws.Goals as goal

pub returns : goal.returns
returns g c = record {
  idle = idle_logs_nothing;
  begins = part_begins;
  splits = part_splits;
  enters = part_enters;
  logs = part_logs;
  stays = part_stays;
  joins = parts_join;
  all = part_is_all;
}
