use Rattle.pot_actors.proofs.MoveLemmas.{went}
use Rattle.pot_actors.proofs.parts.Parts.move_one.Goals as goal

pub returns : goal.returns
returns c = went c.args.self.now c.make.new.self c.args.group _ c.make.result c.make.ensures
