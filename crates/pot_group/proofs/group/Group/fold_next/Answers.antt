use Rattle.std.proofs.Common.{◌≡◌, ◌<◌, IsTrue, Some, subst, sym, ap, ◌∙◌, map}
use Rattle.std.specs.Prelude.{Contains}
use Rattle.pot_machine.specs.Table.{next_column}
use Rattle.pot_steps.specs.Flight.{IsRelay, weight_in}
use Rattle.pot_steps.specs.Flights.{flight_in}
use Rattle.pot_shelves.specs.Shelves.{plain}
use Rattle.pot_group.specs.Group.{GroupParts, view_of}
use Rattle.pot_group.proofs.Reading.{served, covers_rise}
use Rattle.pot_group.proofs.RelayExits.{next_facts_of}
use Rattle.pot_group.proofs.Hearing.{heard_fold}
use Rattle.pot_group.proofs.Settled.{settled_loses}
use Rattle.pot_group.proofs.group.Group.fold_next.Goals as goal

pub weight_of-weight-requires-clause-relay : goal.weight_of-weight-requires-clause-relay
weight_of-weight-requires-clause-relay g c =
    let a = c.self.inside in
    let v : GroupParts _ = record { number = a.number; first = a.first; table = a.table; log = a.log.items; flights = a.flights.items; blinds = map (λ s. s.value) a.blinds.items; tried = a.tried; shelves = a.archives } in
    subst (λ w. IsRelay w 2 c.args.flight.now.relay) (sym c.data_columns.ensures.value)
    (next_facts_of (IsTrue g.A.Archive.account.tells) (view_of g.A.Archive.account.meaning v) c.args.flight.now c.args.column c.self.invariant.0
    (subst (λ (w : GroupParts _). flight_in w.flights c.args.flight.now.relay.stripe ≡ Some c.args.flight.now) (sym c.self.view_is) c.requires.here)
    (subst (λ (w : GroupParts _). next_column w.table c.args.flight.now.relay ≡ Some c.args.column) (sym c.self.view_is) c.requires.next)).0

pub archive_of-number-requires : goal.archive_of-number-requires
archive_of-number-requires g c =
    let a = c.self.inside in
    let v : GroupParts _ = record { number = a.number; first = a.first; table = a.table; log = a.log.items; flights = a.flights.items; blinds = map (λ s. s.value) a.blinds.items; tried = a.tried; shelves = a.archives } in
    (next_facts_of (IsTrue g.A.Archive.account.tells) (view_of g.A.Archive.account.meaning v) c.args.flight.now c.args.column c.self.invariant.0
    (subst (λ (w : GroupParts _). flight_in w.flights c.args.flight.now.relay.stripe ≡ Some c.args.flight.now) (sym c.self.view_is) c.requires.here)
    (subst (λ (w : GroupParts _). next_column w.table c.args.flight.now.relay ≡ Some c.args.column) (sym c.self.view_is) c.requires.next)).1

pub fold-requires-clause-weight : goal.fold-requires-clause-weight
fold-requires-clause-weight g c =
    let a = c.self.inside in
    let v : GroupParts _ = record { number = a.number; first = a.first; table = a.table; log = a.log.items; flights = a.flights.items; blinds = map (λ s. s.value) a.blinds.items; tried = a.tried; shelves = a.archives } in
    subst (λ n. 0 < n) (sym (c.weight_of-weight.ensures ∙ ap (λ w. weight_in w c.args.flight.now.relay c.args.column) c.data_columns.ensures.value))
    (next_facts_of (IsTrue g.A.Archive.account.tells) (view_of g.A.Archive.account.meaning v) c.args.flight.now c.args.column c.self.invariant.0
    (subst (λ (w : GroupParts _). flight_in w.flights c.args.flight.now.relay.stripe ≡ Some c.args.flight.now) (sym c.self.view_is) c.requires.here)
    (subst (λ (w : GroupParts _). next_column w.table c.args.flight.now.relay ≡ Some c.args.column) (sym c.self.view_is) c.requires.next)).2

pub fold-requires-clause-number : goal.fold-requires-clause-number
fold-requires-clause-number g c =
    let a = c.self.inside in
    let v : GroupParts _ = record { number = a.number; first = a.first; table = a.table; log = a.log.items; flights = a.flights.items; blinds = map (λ s. s.value) a.blinds.items; tried = a.tried; shelves = a.archives } in
    subst (λ n. Contains (plain g.A.Archive.account.meaning a.archives).numbers n) (sym c.archive_of-number.ensures)
    (served (IsTrue g.A.Archive.account.tells) (view_of g.A.Archive.account.meaning v) c.self.invariant.0 c.args.flight.now.relay.stripe c.args.column
    (next_facts_of (IsTrue g.A.Archive.account.tells) (view_of g.A.Archive.account.meaning v) c.args.flight.now c.args.column c.self.invariant.0
    (subst (λ (w : GroupParts _). flight_in w.flights c.args.flight.now.relay.stripe ≡ Some c.args.flight.now) (sym c.self.view_is) c.requires.here)
    (subst (λ (w : GroupParts _). next_column w.table c.args.flight.now.relay ≡ Some c.args.column) (sym c.self.view_is) c.requires.next)).1)

pub invariant_of-self : goal.invariant_of-self
invariant_of-self g c =
    let a = c.self.inside in
    let v : GroupParts _ = record { number = a.number; first = a.first; table = a.table; log = a.log.items; flights = a.flights.items; blinds = map (λ s. s.value) a.blinds.items; tried = a.tried; shelves = a.archives } in (
      settled_loses (IsTrue g.A.Archive.account.tells) (view_of g.A.Archive.account.meaning v)
          (plain g.A.Archive.account.meaning c.fold.new.self) c.self.invariant.0 c.fold.ensures.keeps c.fold.ensures.loses c.fold.ensures.history
          (λ t. heard_fold a.table a.flights.items c.args.flight.now c.args.flight.now.relay.stripe c.args.column c.fold.result (plain g.A.Archive.account.meaning a.archives) (plain g.A.Archive.account.meaning c.fold.new.self)
          (subst (λ (w : GroupParts _). flight_in w.flights c.args.flight.now.relay.stripe ≡ Some c.args.flight.now) (sym c.self.view_is) c.requires.here)
          (subst (λ (w : GroupParts _). next_column w.table c.args.flight.now.relay ≡ Some c.args.column) (sym c.self.view_is) c.requires.next)
          (rw (c.archive_of-number.ensures, c.requires.sum) at c.fold.ensures.hears t) (rw c.archive_of-number.ensures at c.fold.ensures.silent t)),
      c.self.invariant.1,
      c.self.invariant.2,
      c.fold.ensures.keeps.numbers ∙ c.self.invariant.3,
      c.self.invariant.4,
    )

pub returns-clause-covers : goal.returns-clause-covers
returns-clause-covers g c = λ failed.
    let a = c.self.inside in
    let v : GroupParts _ = record { number = a.number; first = a.first; table = a.table; log = a.log.items; flights = a.flights.items; blinds = map (λ s. s.value) a.blinds.items; tried = a.tried; shelves = a.archives } in
    covers_rise (IsTrue g.A.Archive.account.tells) (view_of g.A.Archive.account.meaning v)
    (plain g.A.Archive.account.meaning c.fold.new.self) c.args.flight.now.relay.stripe c.args.column c.self.invariant.0
    (next_facts_of (IsTrue g.A.Archive.account.tells) (view_of g.A.Archive.account.meaning v) c.args.flight.now c.args.column c.self.invariant.0
    (subst (λ (w : GroupParts _). flight_in w.flights c.args.flight.now.relay.stripe ≡ Some c.args.flight.now) (sym c.self.view_is) c.requires.here)
    (subst (λ (w : GroupParts _). next_column w.table c.args.flight.now.relay ≡ Some c.args.column) (sym c.self.view_is) c.requires.next)).1
    c.fold.ensures.keeps (rw (← c.archive_of-number.ensures) (c.fold.ensures.cause failed))
