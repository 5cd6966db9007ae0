use Rattle.pot_rows.proofs.WorkLemmas.{turn_is_work, own_in_turn_at, row_work_in_parts, row_alone_in_parts, tie_is_work, tie_has_none, row_work_went, row_went_in_parts, row_sole_in_parts, row_sole_alone, row_sole_at_close, joins_at_places}
use Rattle.pot_rows.proofs.works.row_laws.Goals as goal

pub returns : goal.returns
returns g c = record {
  turn = turn_is_work;
  own = own_in_turn_at;
  whole = row_work_in_parts;
  parts = row_alone_in_parts;
  tie = tie_is_work;
  none = tie_has_none;
  went = row_work_went;
  went_whole = row_went_in_parts;
  sole_parts = row_sole_in_parts;
  sole_alone = row_sole_alone;
  close = row_sole_at_close;
  batch = joins_at_places;
}
