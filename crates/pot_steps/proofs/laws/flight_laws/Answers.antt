use Rattle.pot_steps.proofs.Steps.{worse_keeps_flight, begin_keeps, hop_keeps}
use Rattle.pot_steps.proofs.Rebuilt.{rebuilt}
use Rattle.pot_steps.proofs.Solved.{grown, begun, heard}
use Rattle.pot_steps.proofs.laws.flight_laws.Goals as goal

pub returns : goal.returns
returns c = record {
  begins = begin_keeps;
  hop = hop_keeps;
  loss = worse_keeps_flight;
  rebuilds = λ data_columns parity fits s r partial is done law none.
      (let f = law.filled none in (f.0, f.1, rebuilt data_columns parity fits.few fits.one fits.small s r f.0 partial is f.1 law.is_block done f.2));
  sum_begins = begun;
  sum_grows = grown;
  heard = heard;
}
