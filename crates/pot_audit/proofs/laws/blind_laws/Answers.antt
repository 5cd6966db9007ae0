use Rattle.pot_audit.proofs.Blinding.{blinds_return}
use Rattle.pot_audit.proofs.laws.blind_laws.Goals as goal

pub returns : goal.returns
returns c = blinds_return c.run_laws.ensures.keeps c.shape_laws.ensures.worlds c.coalition_laws.ensures.hidden c.coalition_laws.ensures.fixed c.coalition_laws.ensures.exchange
