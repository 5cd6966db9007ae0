use Rattle.pot_shard.proofs.DrawLemmas.{draw_laws}
use Rattle.pot_shard.proofs.laws.draw_laws.Goals as goal

pub returns : goal.returns
returns c = draw_laws
