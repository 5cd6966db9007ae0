use Rattle.std.proofs.Common.{◌≡◌, ◌<◌, IsTrue, IsSomeAnd, Some, length, refl, subst, sym, arith, rules, tests, not, map}
use Rattle.std.specs.Prelude.{◌==◌}
use Rattle.std.proofs.lemmas.Fn.{filter_same}
use Rattle.pot_machine.specs.Table.{next_column}
use Rattle.pot_steps.specs.Stripe.{Sound}
use Rattle.pot_steps.specs.Holdings.{stripe_of}
use Rattle.pot_steps.specs.declared.flight.Flight.{Flight}
use Rattle.pot_steps.specs.Flights.{flight_in}
use Rattle.pot_shelves.specs.Shelves.{plain, numbers_of}
use Rattle.pot_group.specs.Group.{GroupParts, view_of}
use Rattle.pot_group.proofs.RelayExits.{stands_in_table, left_exit, left_means, is_some_next}
use Rattle.pot_group.proofs.Arriving.{none_arrived, left_brings}
use Rattle.pot_group.proofs.group.Group.leave_flight.Goals as goal

pub give_up-entry-requires-clause-stands : goal.give_up-entry-requires-clause-stands
give_up-entry-requires-clause-stands g c =
    let a = c.self.inside in
    let v : GroupParts _ = record { number = a.number; first = a.first; table = a.table; log = a.log.items; flights = a.flights.items; blinds = map (λ s. s.value) a.blinds.items; tried = a.tried; shelves = a.archives } in
    stands_in_table (IsTrue g.A.Archive.account.tells) (view_of g.A.Archive.account.meaning v) c.args.flight c.self.invariant.0
    (subst (λ (w : GroupParts _). flight_in w.flights c.args.flight.relay.stripe ≡ Some c.args.flight) (sym c.self.view_is) c.requires.here)

pub give_up-entry-requires-clause-next : goal.give_up-entry-requires-clause-next
give_up-entry-requires-clause-next g c =
    let a = c.self.inside in
    let v : GroupParts _ = record { number = a.number; first = a.first; table = a.table; log = a.log.items; flights = a.flights.items; blinds = map (λ s. s.value) a.blinds.items; tried = a.tried; shelves = a.archives } in
    is_some_next _ (next_column a.table c.args.flight.relay)
    (subst (λ (w : GroupParts _). IsSomeAnd (next_column w.table c.args.flight.relay) (λ k. IsTrue g.A.Archive.account.tells → Sound (stripe_of w.table (plain g.A.Archive.account.meaning w.shelves).held c.args.flight.relay.stripe) k → ⊥)) (sym c.self.view_is) c.requires.next)

pub invariant_of-self : goal.invariant_of-self
invariant_of-self g c =
    let a = c.self.inside in
    let v : GroupParts _ = record { number = a.number; first = a.first; table = a.table; log = a.log.items; flights = a.flights.items; blinds = map (λ s. s.value) a.blinds.items; tried = a.tried; shelves = a.archives } in (
      left_exit (IsTrue g.A.Archive.account.tells) (view_of g.A.Archive.account.meaning v) c.args.job c.args.flight c.self.invariant.0
          (subst (λ (w : GroupParts _). length w.log < 262144) (sym c.self.view_is) c.requires.room)
          (subst (λ (w : GroupParts _). flight_in w.flights c.args.flight.relay.stripe ≡ Some c.args.flight) (sym c.self.view_is) c.requires.here)
          (subst (λ (w : GroupParts _). c.args.flight.relay.stripe < w.table.stripes) (sym c.self.view_is) c.requires.within)
          (next_column a.table c.args.flight.relay) refl
          (subst (λ (w : GroupParts _). IsSomeAnd (next_column w.table c.args.flight.relay) (λ k. IsTrue g.A.Archive.account.tells → Sound (stripe_of w.table (plain g.A.Archive.account.meaning w.shelves).held c.args.flight.relay.stripe) k → ⊥)) (sym c.self.view_is) c.requires.next)
          c.give_up-entry.result c.give_up-entry.new.table c.push_reserved.new.self.items c.retain.new.self.items c.give_up-entry.ensures.entry c.give_up-entry.ensures.legal c.give_up-entry.ensures.table c.push_reserved.ensures.items
          (filter_same _ (λ (f : Flight). not (f.relay.stripe == c.args.flight.relay.stripe)) _ (λ x b q h. search (rules, tests)) _ _ c.retain.ensures.filtered),
      omega (arith, c.self.invariant.1, c.push_reserved.ensures.capacity),
      omega (arith, c.self.invariant.2, c.retain.ensures.capacity),
      none_arrived a.first a.log.items c.push_reserved.new.self.items c.give_up-entry.result (numbers_of a.archives.shelves) (numbers_of a.archives.shelves) c.self.invariant.3 c.push_reserved.ensures.items (left_brings _ _ _ _ _ c.give_up-entry.ensures.entry) refl,
      c.self.invariant.4,
    )

pub returns : goal.returns
returns g c =
    let a = c.self.inside in
    let v : GroupParts _ = record { number = a.number; first = a.first; table = a.table; log = a.log.items; flights = a.flights.items; blinds = map (λ s. s.value) a.blinds.items; tried = a.tried; shelves = a.archives } in
    left_means c.args.job c.args.self.now v c.give_up-entry.result c.give_up-entry.new.table c.args.flight c.push_reserved.new.self.items c.retain.new.self.items c.self.view_is
    c.give_up-entry.ensures.entry c.give_up-entry.ensures.table c.push_reserved.ensures.items
    (filter_same _ (λ (f : Flight). not (f.relay.stripe == c.args.flight.relay.stripe)) _ (λ x b q h. search (rules, tests)) _ _ c.retain.ensures.filtered)
