use Rattle.std.proofs.Common.{◌≡◌, ◌<◌, IsTrue, Some, None, length, subst, sym, ap, ◌∙◌, arith, rules, tests, not, refl, map}
use Rattle.std.specs.Prelude.{◌==◌, Err}
use Rattle.std.proofs.lemmas.Fn.{filter_same}
use Rattle.pot_machine.specs.Table.{Table, next_column}
use Rattle.pot_bytes.specs.Digests.{digest_of}
use Rattle.pot_shelves.specs.Shelves.{numbers_of}
use Rattle.pot_group.specs.Relaying.{Advances, EndsRelay}
use Rattle.pot_group.specs.declared.relaying.AdvanceFault.TheVariants as failed
use Rattle.pot_steps.specs.declared.flight.Flight.{Flight}
use Rattle.pot_steps.specs.Flights.{flight_in}
use Rattle.pot_group.specs.Group.{GroupParts, view_of}
use Rattle.pot_group.specs.Arrivals.{arrival}
use Rattle.pot_group.proofs.RelayExits.{stands_in_table}
use Rattle.pot_group.proofs.AdvanceSteps.{odd_settled}
use Rattle.pot_group.proofs.Advancing.{odd_advances, well_advances}
use Rattle.pot_group.proofs.Arriving.{none_arrived}
use Rattle.pot_group.proofs.group.Group.finish_flight.Goals as goal

pub finish-requires-clause-stands : goal.finish-requires-clause-stands
finish-requires-clause-stands g c =
    let a = c.self.inside in
    let v : GroupParts _ = record { number = a.number; first = a.first; table = a.table; log = a.log.items; flights = a.flights.items; blinds = map (λ s. s.value) a.blinds.items; tried = a.tried; shelves = a.archives } in
    stands_in_table (IsTrue g.A.Archive.account.tells) (view_of g.A.Archive.account.meaning v) c.args.flight c.self.invariant.0
    (subst (λ (w : GroupParts _). flight_in w.flights c.args.flight.relay.stripe ≡ Some c.args.flight) (sym c.self.view_is) c.requires.here)

pub invariant_of-self-in-Odd : goal.invariant_of-self-in-Odd
invariant_of-self-in-Odd g c =
    let a = c.self.inside in
    let v : GroupParts _ = record { number = a.number; first = a.first; table = a.table; log = a.log.items; flights = a.flights.items; blinds = map (λ s. s.value) a.blinds.items; tried = a.tried; shelves = a.archives } in (
      odd_settled (IsTrue g.A.Archive.account.tells) (view_of g.A.Archive.account.meaning v) c.args.job c.args.flight c.self.invariant.0 (subst (λ (w : GroupParts _). length w.log < 262144) (sym c.self.view_is) c.requires.room)
          (subst (λ (w : GroupParts _). flight_in w.flights c.args.flight.relay.stripe ≡ Some c.args.flight) (sym c.self.view_is) c.requires.here)
          (subst (λ (w : GroupParts _). next_column w.table c.args.flight.relay ≡ None) (sym c.self.view_is) c.requires.next)
          c.in-Odd.entry c.in-Odd.wanted c.in-Odd.found c.finish.new.table c.push_reserved.new.self.items c.retain.new.self.items c.in-Odd.ensures
          c.push_reserved.ensures.items (filter_same _ (λ (f : Flight). not (f.relay.stripe == c.args.flight.relay.stripe)) _ (λ x b q h. search (rules, tests)) _ _ c.retain.ensures.filtered),
      omega (arith, c.self.invariant.1, c.push_reserved.ensures.capacity),
      omega (arith, c.self.invariant.2, c.retain.ensures.capacity),
      none_arrived a.first a.log.items c.push_reserved.new.self.items c.in-Odd.entry (numbers_of a.archives.shelves) (numbers_of a.archives.shelves) c.self.invariant.3 c.push_reserved.ensures.items (ap arrival c.in-Odd.ensures.0) refl,
      c.self.invariant.4,
    )

pub returns-in-Odd : goal.returns-in-Odd
returns-in-Odd g c =
    let a = c.self.inside in
    let v : GroupParts _ = record { number = a.number; first = a.first; table = a.table; log = a.log.items; flights = a.flights.items; blinds = map (λ s. s.value) a.blinds.items; tried = a.tried; shelves = a.archives } in
    subst (λ (w : GroupParts _). Advances (IsTrue g.A.Archive.account.tells) c.args.job c.args.flight.relay.stripe (Err (failed.Odd c.in-Odd.wanted c.in-Odd.found)) (view_of g.A.Archive.account.meaning w)
    (view_of g.A.Archive.account.meaning (record v { table = c.finish.new.table; log = c.push_reserved.new.self.items; flights = c.retain.new.self.items }))) c.self.view_is
    (odd_advances (IsTrue g.A.Archive.account.tells) (view_of g.A.Archive.account.meaning v) c.args.job c.args.flight c.self.invariant.0 (subst (λ (w : GroupParts _). length w.log < 262144) (sym c.self.view_is) c.requires.room)
    (subst (λ (w : GroupParts _). flight_in w.flights c.args.flight.relay.stripe ≡ Some c.args.flight) (sym c.self.view_is) c.requires.here)
    (subst (λ (w : GroupParts _). next_column w.table c.args.flight.relay ≡ None) (sym c.self.view_is) c.requires.next)
    c.in-Odd.entry c.in-Odd.wanted c.in-Odd.found c.finish.new.table c.push_reserved.new.self.items c.retain.new.self.items c.in-Odd.ensures c.push_reserved.ensures.items (filter_same _ (λ (f : Flight). not (f.relay.stripe == c.args.flight.relay.stripe)) _ (λ x b q h. search (rules, tests)) _ _ c.retain.ensures.filtered))

pub returns-in-Ready : goal.returns-in-Ready
returns-in-Ready g c =
    let a = c.self.inside in
    let v : GroupParts _ = record { number = a.number; first = a.first; table = a.table; log = a.log.items; flights = a.flights.items; blinds = map (λ s. s.value) a.blinds.items; tried = a.tried; shelves = a.archives } in
    let m = c.in-Ready.ensures in
    subst (λ (w : GroupParts _). Advances (IsTrue g.A.Archive.account.tells) c.args.job c.args.flight.relay.stripe c.write_back.result (view_of g.A.Archive.account.meaning w) (view_of g.A.Archive.account.meaning c.write_back.new.self)) c.self.view_is
    (well_advances (IsTrue g.A.Archive.account.tells) (view_of g.A.Archive.account.meaning v) c.args.job c.args.flight c.self.invariant.0 (subst (λ (w : GroupParts _). length w.log < 262144) (sym c.self.view_is) c.requires.room)
    (subst (λ (w : GroupParts _). flight_in w.flights c.args.flight.relay.stripe ≡ Some c.args.flight) (sym c.self.view_is) c.requires.here)
    (subst (λ (w : GroupParts _). next_column w.table c.args.flight.relay ≡ None) (sym c.self.view_is) c.requires.next)
    c.in-Ready.block m.0 (m.2 ∙ ap (λ b. Some (digest_of b)) (sym m.0)) (view_of g.A.Archive.account.meaning c.write_back.new.self) c.write_back.result
    (subst (λ (t : Table). EndsRelay (IsTrue g.A.Archive.account.tells) c.args.job c.in-Ready.block c.args.flight c.write_back.result (view_of g.A.Archive.account.meaning (record v { table = t })) (view_of g.A.Archive.account.meaning c.write_back.new.self)) m.1 c.write_back.ensures))
