use Rattle.pot_worked.proofs.WroteOnlyForLemmas.{work_goes_on, work_in_parts, alone_in_parts, own_in_turn, own_in_parts, more_is_work, more_has_none, alone_at_close}
use Rattle.pot_worked.proofs.BatchLemmas.{alone_in_batch, owned_in_batch}
use Rattle.pot_worked.proofs.work_laws.Goals as goal

pub returns : goal.returns
returns g c = record {
  goes_on = work_goes_on;
  whole = work_in_parts;
  parts = alone_in_parts;
  turn = own_in_turn;
  own = own_in_parts;
  more = more_is_work;
  none = more_has_none;
  close = alone_at_close;
  batch = alone_in_batch;
  owns = owned_in_batch;
}
