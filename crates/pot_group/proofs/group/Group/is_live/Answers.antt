use Rattle.std.proofs.Common.{◌≡◌, IsTrue, Some, subst, sym, map}
use Rattle.pot_machine.specs.Table.{next_column}
use Rattle.pot_steps.specs.Flights.{flight_in}
use Rattle.pot_group.specs.Group.{GroupParts, view_of}
use Rattle.pot_group.proofs.RelayExits.{next_facts_of}
use Rattle.pot_group.proofs.group.Group.is_live.Goals as goal

pub slot-requires-clause-column : goal.slot-requires-clause-column
slot-requires-clause-column g c =
    let a = c.self.inside in
    let v : GroupParts _ = record { number = a.number; first = a.first; table = a.table; log = a.log.items; flights = a.flights.items; blinds = map (λ s. s.value) a.blinds.items; tried = a.tried; shelves = a.archives } in
    (next_facts_of (IsTrue g.A.Archive.account.tells) (view_of g.A.Archive.account.meaning v) c.args.flight.now c.args.column c.self.invariant.0
    (subst (λ (w : GroupParts _). flight_in w.flights c.args.flight.now.relay.stripe ≡ Some c.args.flight.now) (sym c.self.view_is) c.requires.here)
    (subst (λ (w : GroupParts _). next_column w.table c.args.flight.now.relay ≡ Some c.args.column) (sym c.self.view_is) c.requires.next)).1
