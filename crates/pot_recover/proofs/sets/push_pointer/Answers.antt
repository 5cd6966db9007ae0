use Rattle.pot_recover.proofs.SetLemmas.{in_pushed}
use Rattle.pot_recover.proofs.sets.push_pointer.Goals as goal

pub returns-in-Ok : goal.returns-in-Ok
returns-in-Ok c = in_pushed c.args.found.now.items c.push.new.self.items c.args.pointer c.in-Ok.ensures.items
