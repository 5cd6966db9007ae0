use Rattle.std.proofs.Common.{refl}
use Rattle.pot_looks.proofs.EscapeLemmas.{back, not_in_escaped}
use Rattle.pot_looks.proofs.laws.escape_laws.Goals as goal

pub returns : goal.returns
returns c = record {
  no_less = not_in_escaped 60 refl;
  no_greater = not_in_escaped 62 refl;
  no_quote = not_in_escaped 34 refl;
  back = back;
}
