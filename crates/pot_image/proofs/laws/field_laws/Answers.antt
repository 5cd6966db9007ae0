use Rattle.pot_image.proofs.Once.{once_value, once_place, never_both, decided}
use Rattle.pot_image.proofs.laws.field_laws.Goals as goal

pub returns : goal.returns
returns g c = record { once = once_value g.S.GrammarShape.grammar; place = once_place g.S.GrammarShape.grammar; either = never_both g.S.GrammarShape.grammar; decided = decided g.S.GrammarShape.grammar }
