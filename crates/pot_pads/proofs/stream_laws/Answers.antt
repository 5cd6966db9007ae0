-- The laws of a stream.
use Rattle.pot_pads.proofs.PadsLemmas.{length-next_bytes, AreBytes-next_bytes, next_bytes-append, moved-moved, next_bytes-moved}
use Rattle.pot_pads.proofs.stream_laws.Goals as goal

pub returns : goal.returns
returns c = record {
  many = length-next_bytes;
  bytes = AreBytes-next_bytes;
  cuts = next_bytes-append;
  steps = moved-moved;
  goes_on = next_bytes-moved;
}
