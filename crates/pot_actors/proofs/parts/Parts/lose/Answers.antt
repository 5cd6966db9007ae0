use Rattle.pot_actors.proofs.MoveLemmas.{lost}
use Rattle.pot_actors.proofs.parts.Parts.lose.Goals as goal

pub returns : goal.returns
returns c = lost c.args.self.now c.lose.new.self c.args.archive c.args.slot c.lose.ensures
