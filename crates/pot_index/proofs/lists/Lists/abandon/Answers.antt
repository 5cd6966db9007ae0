use Rattle.std.proofs.Common.{arith, refl, ap}
use Rattle.std.specs.Prelude.{length}
use Rattle.pot_index.specs.declared.entry.IndexEntry.TheVariants.{Abandon}
use Rattle.pot_index.proofs.ListLemmas.{log_is, went_on, plain_room}
use Rattle.pot_index.proofs.NameLemmas.{length-without_le}
use Rattle.pot_index.proofs.lists.Lists.abandon.Goals as goal

pub push_reserved-requires : goal.push_reserved-requires
push_reserved-requires c = omega (arith, c.self.inside.log.ok, log_is c.args.self.now _ _ _ _ _ _ c.self.view_is)

pub returns : goal.returns
returns c =
    rw (c.push_reserved.ensures.items, c.release.ensures.items)
    (went_on c.args.self.now _ _ _ _ _ _ _ _ (Abandon c.args.job c.args.name) c.self.view_is refl refl)

pub invariant_of-self : goal.invariant_of-self
invariant_of-self c =
    plain_room _ _ _ _ _ _ _ (Abandon c.args.job c.args.name) c.self.invariant c.push_reserved.ensures.items refl c.push_reserved.ensures.capacity
    (omega (arith, c.self.invariant.records_room, ap length c.release.ensures.items, length-without_le c.args.name c.self.inside.reserved.items))
