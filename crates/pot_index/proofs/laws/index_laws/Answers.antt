use Rattle.pot_index.proofs.LogLaws.{reserved_stays, ended_stays}
use Rattle.pot_index.proofs.NamesKept.{replay_keeps, goes_on, went_on, leads_once}
use Rattle.pot_index.proofs.RecordLaws.{published_once, records_stay, splits_stay, owed_never_falls, counts_reserved, few_published}
use Rattle.pot_index.proofs.laws.index_laws.Goals as goal

pub returns : goal.returns
returns c = record {
  names = replay_keeps;
  go_on = goes_on;
  went_on = went_on;
  once = leads_once;
  reserved = reserved_stays;
  ended = ended_stays;
  published = published_once;
  records = records_stay;
  splits = splits_stay;
  owed = owed_never_falls;
  counted = counts_reserved;
  few = few_published;
}
