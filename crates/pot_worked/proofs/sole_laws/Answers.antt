use Rattle.pot_worked.proofs.OnlyWriterLemmas.{work_went, went_in_parts, gain_in_parts, sole_in_parts, sole_is_alone, sole_owns, batch_went, sole_at_close}
use Rattle.pot_worked.proofs.sole_laws.Goals as goal

pub returns : goal.returns
returns g c = record {
  work = work_went;
  whole = went_in_parts;
  gain = gain_in_parts;
  parts = sole_in_parts;
  alone = sole_is_alone;
  owns = sole_owns;
  batch = batch_went;
  close = sole_at_close;
}
