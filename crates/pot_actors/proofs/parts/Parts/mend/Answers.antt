use Rattle.pot_actors.proofs.MoveLemmas.{went}
use Rattle.pot_actors.proofs.parts.Parts.mend.Goals as goal

pub returns : goal.returns
returns c = went c.args.self.now c.make.new.self c.args.place.now.group _ c.make.result c.make.ensures
