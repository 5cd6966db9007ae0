use Rattle.pot_actors.proofs.NameLemmas.{renewed_ledger}
use Rattle.pot_actors.proofs.ledger.Ledger.renew.Goals as goal

pub returns : goal.returns
returns c = renewed_ledger c.args.self.now.rack c.args.self.now.records.items c.args.self.now.reserved.items c.args.self.now.log.items c.push_reserved.new.self.items c.args.job c.args.kept c.of.result c.args.mark c.of.ensures c.requires.marked c.args.at c.requires.ascends c.requires.stands (rw (← c.reserve.ensures.items) c.push_reserved.ensures.items)
