use Rattle.pot_index.proofs.StoryLemmas.{still_small}
use Rattle.pot_index.proofs.tests.renew.Goals as goal

pub returns-clause-there : goal.returns-clause-there
returns-clause-there c = still_small c.args.index.now c.renew-renewed.new.self 6 c.args.name.now _ c.renew-renewed.result c.logged-entries.ensures.rules c.requires.there c.renew-renewed.ensures
