use Rattle.pot_gf.proofs.FieldLemmas.{field_laws}
use Rattle.pot_gf.proofs.field.field_laws.Goals as goal

pub returns : goal.returns
returns c = field_laws
