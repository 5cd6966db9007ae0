use Rattle.std.proofs.Common.{arith, refl, ap}
use Rattle.std.proofs.lemmas.List.{length_push}
use Rattle.std.specs.Prelude.{length}
use Rattle.pot_index.specs.declared.entry.IndexEntry.TheVariants.{Reserve}
use Rattle.pot_index.specs.declared.reservation.Reservation.{Reservation}
use Rattle.pot_index.proofs.ListLemmas.{log_is, went_on, plain_room, wider_room}
use Rattle.pot_index.proofs.lists.Lists.reserve.Goals as goal

pub push_reserved-requires-2 : goal.push_reserved-requires-2
push_reserved-requires-2 c = omega (arith, c.self.inside.log.ok, log_is c.args.self.now _ _ _ _ _ _ c.self.view_is)

pub returns-clause-ok : goal.returns-clause-ok
returns-clause-ok c =
    rw (c.push_reserved-2.ensures.items, c.push_reserved.ensures.items, c.reserve.ensures.items, c.reserve-2.ensures.items)
    (went_on c.args.self.now _ _ _ _ _ _ _ _ (Reserve c.args.job c.args.name) c.self.view_is refl refl)

pub invariant_of-self : goal.invariant_of-self
invariant_of-self c = wider_room _ _ _ _ _ _ c.self.invariant c.reserve.ensures.items refl c.reserve.ensures.capacity

pub invariant_of-self-in_err-reserve-2 : goal.invariant_of-self-in_err-reserve-2
invariant_of-self-in_err-reserve-2 c = wider_room _ _ _ _ _ _ c.self.invariant c.reserve.ensures.items c.reserve-2.ensures.items c.reserve.ensures.capacity

pub invariant_of-self-2 : goal.invariant_of-self-2
invariant_of-self-2 c =
    let added : Reservation = record { name = c.args.name; job = c.args.job } in
    plain_room _ _ _ _ _ _ _ (Reserve c.args.job c.args.name) c.self.invariant c.push_reserved-2.ensures.items refl c.push_reserved-2.ensures.capacity
    (omega (arith, c.in_ok-reserve.ensures.ok, ap length c.push_reserved.ensures.items, length_push c.reserve-2.new.self.items added, ap length c.reserve-2.ensures.items, c.reserve.new.self.ok, c.self.inside.reserved.ok))
