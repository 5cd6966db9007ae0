use Rattle.pot_recover.proofs.DistinctLemmas.{list_pushed}
use Rattle.pot_recover.proofs.distinct.push_list.Goals as goal

pub returns-in-Ok : goal.returns-in-Ok
returns-in-Ok g c = list_pushed c.args.lists.now.items c.push.new.self.items c.args.list c.in-Ok.ensures.items
