use Rattle.std.proofs.Common.{arith}
use Rattle.pot_index.proofs.ListLemmas.{log_is, went_on, plain_room, quiet_brings, quiet_stays}
use Rattle.pot_index.proofs.lists.Lists.enter.Goals as goal

pub push_reserved-requires : goal.push_reserved-requires
push_reserved-requires c = omega (arith, c.self.inside.log.ok, log_is c.args.self.now _ _ _ _ _ _ c.self.view_is)

pub returns : goal.returns
returns c =
    rw c.push_reserved.ensures.items
    (went_on c.args.self.now _ _ _ _ _ _ _ _ c.args.entry c.self.view_is (quiet_brings c.args.entry c.requires.quiet) (quiet_stays _ c.args.entry c.requires.quiet))

pub invariant_of-self : goal.invariant_of-self
invariant_of-self c =
    plain_room _ _ _ _ _ _ _ c.args.entry c.self.invariant c.push_reserved.ensures.items (quiet_brings c.args.entry c.requires.quiet) c.push_reserved.ensures.capacity c.self.invariant.records_room
