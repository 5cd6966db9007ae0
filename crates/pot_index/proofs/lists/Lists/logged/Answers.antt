use Rattle.std.proofs.Common.{arith}
use Rattle.pot_index.proofs.ListLemmas.{log_is}
use Rattle.pot_index.proofs.lists.Lists.logged.Goals as goal

pub returns : goal.returns
returns c = omega (arith, c.self.inside.log.ok, log_is c.args.self.now _ _ _ _ _ _ c.self.view_is)
