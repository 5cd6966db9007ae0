use Rattle.std.proofs.Common.{arith}
use Rattle.pot_index.proofs.ListLemmas.{log_is, reserved_is}
use Rattle.pot_index.proofs.lists.Lists.owed.Goals as goal

pub returns : goal.returns
returns c =
    omega (arith, c.self.inside.log.ok, c.self.inside.reserved.ok, log_is c.args.self.now _ _ _ _ _ _ c.self.view_is, reserved_is c.args.self.now _ _ _ _ _ _ c.self.view_is)
