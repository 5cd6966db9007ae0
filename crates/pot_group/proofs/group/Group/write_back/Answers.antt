use Rattle.std.proofs.Common.{◌≡◌, ◌<◌, IsTrue, Some, None, length, refl, subst, sym, arith, rules, tests, not, ap, map}
use Rattle.std.specs.Prelude.{◌==◌, Contains, Ok, Err}
use Rattle.std.proofs.lemmas.Fn.{filter_same}
use Rattle.pot_machine.specs.Slot.{digest_in}
use Rattle.pot_machine.specs.Table.{slot_at, next_column}
use Rattle.pot_bytes.specs.Digests.{digest_of}
use Rattle.pot_steps.specs.declared.flight.Flight.{Flight}
use Rattle.pot_steps.specs.Flights.{flight_in}
use Rattle.pot_shelves.specs.Shelves.{plain, WritesAt, numbers_of}
use Rattle.pot_group.specs.Group.{GroupParts, view_of}
use Rattle.pot_group.specs.Relaying.{EndsRelay}
use Rattle.pot_group.specs.declared.relaying.Advanced.TheVariants as advanced
use Rattle.pot_group.specs.declared.relaying.AdvanceFault.TheVariants as failed
use Rattle.pot_group.specs.Arrivals.{arrival}
use Rattle.pot_group.proofs.RelayExits.{target_wide, target_served, mended_legal, fault_legal, mended_exit, fault_exit}
use Rattle.pot_group.proofs.Arriving.{none_arrived}
use Rattle.pot_group.proofs.group.Group.write_back.Goals as goal

pub archive_of-number-requires : goal.archive_of-number-requires
archive_of-number-requires g c =
    let a = c.self.inside in
    let v : GroupParts _ = record { number = a.number; first = a.first; table = a.table; log = a.log.items; flights = a.flights.items; blinds = map (λ s. s.value) a.blinds.items; tried = a.tried; shelves = a.archives } in
    target_wide (IsTrue g.A.Archive.account.tells) (view_of g.A.Archive.account.meaning v) (view_of g.A.Archive.account.meaning v).shelves c.args.job c.args.flight c.args.block.now c.self.invariant.0
    (subst (λ (w : GroupParts _). length w.log < 262144) (sym c.self.view_is) c.requires.room)
    (subst (λ (w : GroupParts _). flight_in w.flights c.args.flight.relay.stripe ≡ Some c.args.flight) (sym c.self.view_is) c.requires.here)
    (subst (λ (w : GroupParts _). next_column w.table c.args.flight.relay ≡ None) (sym c.self.view_is) c.requires.next)

pub write-requires : goal.write-requires
write-requires g c =
    let a = c.self.inside in
    let v : GroupParts _ = record { number = a.number; first = a.first; table = a.table; log = a.log.items; flights = a.flights.items; blinds = map (λ s. s.value) a.blinds.items; tried = a.tried; shelves = a.archives } in
    subst (λ n. Contains (plain g.A.Archive.account.meaning a.archives).numbers n) (sym c.archive_of-number.ensures)
    (target_served (IsTrue g.A.Archive.account.tells) (view_of g.A.Archive.account.meaning v) c.args.flight c.self.invariant.0
    (subst (λ (w : GroupParts _). flight_in w.flights c.args.flight.relay.stripe ≡ Some c.args.flight) (sym c.self.view_is) c.requires.here))

pub mended-entry-requires : goal.mended-entry-requires
mended-entry-requires g c =
    let a = c.self.inside in
    let v : GroupParts _ = record { number = a.number; first = a.first; table = a.table; log = a.log.items; flights = a.flights.items; blinds = map (λ s. s.value) a.blinds.items; tried = a.tried; shelves = a.archives } in
    mended_legal (IsTrue g.A.Archive.account.tells) (view_of g.A.Archive.account.meaning v) (plain g.A.Archive.account.meaning c.write.new.self) c.args.job c.args.flight c.args.block.now c.self.invariant.0
    (subst (λ (w : GroupParts _). length w.log < 262144) (sym c.self.view_is) c.requires.room)
    (subst (λ (w : GroupParts _). flight_in w.flights c.args.flight.relay.stripe ≡ Some c.args.flight) (sym c.self.view_is) c.requires.here)
    (subst (λ (w : GroupParts _). next_column w.table c.args.flight.relay ≡ None) (sym c.self.view_is) c.requires.next)

pub invariant_of-self : goal.invariant_of-self
invariant_of-self g c =
    let a = c.self.inside in
    let v : GroupParts _ = record { number = a.number; first = a.first; table = a.table; log = a.log.items; flights = a.flights.items; blinds = map (λ s. s.value) a.blinds.items; tried = a.tried; shelves = a.archives } in (
      mended_exit (IsTrue g.A.Archive.account.tells) (view_of g.A.Archive.account.meaning v) (plain g.A.Archive.account.meaning c.write.new.self) c.args.job c.args.flight c.args.block.now c.self.invariant.0
          (subst (λ (w : GroupParts _). length w.log < 262144) (sym c.self.view_is) c.requires.room)
          (subst (λ (w : GroupParts _). flight_in w.flights c.args.flight.relay.stripe ≡ Some c.args.flight) (sym c.self.view_is) c.requires.here)
          (subst (λ (w : GroupParts _). next_column w.table c.args.flight.relay ≡ None) (sym c.self.view_is) c.requires.next)
          c.requires.partial
          (subst (λ (w : GroupParts _). digest_in (slot_at w.table c.args.flight.relay.stripe c.args.flight.relay.target) ≡ Some (digest_of c.args.block.now)) (sym c.self.view_is) c.requires.digest)
          (subst (λ n. WritesAt (IsTrue g.A.Archive.account.tells) n c.args.flight.relay.stripe c.args.block.now (Ok (tt)) (plain g.A.Archive.account.meaning a.archives) (plain g.A.Archive.account.meaning c.write.new.self)) c.archive_of-number.ensures c.in-Ok.ensures)
          c.mended-entry.result c.mended-entry.new.table c.push_reserved.new.self.items c.retain.new.self.items c.mended-entry.ensures.entry c.mended-entry.ensures.table c.push_reserved.ensures.items
          (filter_same _ (λ (f : Flight). not (f.relay.stripe == c.args.flight.relay.stripe)) _ (λ x b q h. search (rules, tests)) _ _ c.retain.ensures.filtered),
      omega (arith, c.self.invariant.1, c.push_reserved.ensures.capacity),
      omega (arith, c.self.invariant.2, c.retain.ensures.capacity),
      none_arrived a.first a.log.items c.push_reserved.new.self.items c.mended-entry.result (numbers_of a.archives.shelves) (numbers_of c.write.new.self.shelves) c.self.invariant.3 c.push_reserved.ensures.items (ap arrival c.mended-entry.ensures.entry) c.write.ensures.keeps.numbers,
      c.self.invariant.4,
    )

pub note-requires-clause-legal : goal.note-requires-clause-legal
note-requires-clause-legal g c =
    let a = c.self.inside in
    let v : GroupParts _ = record { number = a.number; first = a.first; table = a.table; log = a.log.items; flights = a.flights.items; blinds = map (λ s. s.value) a.blinds.items; tried = a.tried; shelves = a.archives } in
    fault_legal (IsTrue g.A.Archive.account.tells) (view_of g.A.Archive.account.meaning v) (plain g.A.Archive.account.meaning c.write.new.self) c.args.job c.args.flight c.args.block.now c.self.invariant.0
    (subst (λ (w : GroupParts _). length w.log < 262144) (sym c.self.view_is) c.requires.room)
    (subst (λ (w : GroupParts _). flight_in w.flights c.args.flight.relay.stripe ≡ Some c.args.flight) (sym c.self.view_is) c.requires.here)
    (subst (λ (w : GroupParts _). next_column w.table c.args.flight.relay ≡ None) (sym c.self.view_is) c.requires.next)

pub invariant_of-self-in-Err : goal.invariant_of-self-in-Err
invariant_of-self-in-Err g c =
    let a = c.self.inside in
    let v : GroupParts _ = record { number = a.number; first = a.first; table = a.table; log = a.log.items; flights = a.flights.items; blinds = map (λ s. s.value) a.blinds.items; tried = a.tried; shelves = a.archives } in (
      fault_exit (IsTrue g.A.Archive.account.tells) (view_of g.A.Archive.account.meaning v) (plain g.A.Archive.account.meaning c.write.new.self) c.args.job c.args.flight c.args.block.now c.self.invariant.0
          (subst (λ (w : GroupParts _). length w.log < 262144) (sym c.self.view_is) c.requires.room)
          (subst (λ (w : GroupParts _). flight_in w.flights c.args.flight.relay.stripe ≡ Some c.args.flight) (sym c.self.view_is) c.requires.here)
          (subst (λ (w : GroupParts _). next_column w.table c.args.flight.relay ≡ None) (sym c.self.view_is) c.requires.next)
          (subst (λ (w : GroupParts _). digest_in (slot_at w.table c.args.flight.relay.stripe c.args.flight.relay.target) ≡ Some (digest_of c.args.block.now)) (sym c.self.view_is) c.requires.digest)
          c.in-Err.field-0 (subst (λ n. WritesAt (IsTrue g.A.Archive.account.tells) n c.args.flight.relay.stripe c.args.block.now (Err c.in-Err.field-0) (plain g.A.Archive.account.meaning a.archives) (plain g.A.Archive.account.meaning c.write.new.self)) c.archive_of-number.ensures c.in-Err.ensures) c.note.new.table c.note.new.log.items c.note.ensures.table c.note.ensures.log,
      omega (arith, c.self.invariant.1, c.note.ensures.capacity),
      c.self.invariant.2,
      none_arrived a.first a.log.items c.note.new.log.items _ (numbers_of a.archives.shelves) (numbers_of c.write.new.self.shelves) c.self.invariant.3 c.note.ensures.log refl c.write.ensures.keeps.numbers,
      c.self.invariant.4,
    )

pub returns-in-Ok : goal.returns-in-Ok
returns-in-Ok g c =
    let a = c.self.inside in
    let v : GroupParts _ = record { number = a.number; first = a.first; table = a.table; log = a.log.items; flights = a.flights.items; blinds = map (λ s. s.value) a.blinds.items; tried = a.tried; shelves = a.archives } in
    subst (λ (w : GroupParts _). EndsRelay (IsTrue g.A.Archive.account.tells) c.args.job c.args.block.now c.args.flight (Ok advanced.Mended) (view_of g.A.Archive.account.meaning w)
    (record { number = a.number; first = a.first; table = c.mended-entry.new.table; log = c.push_reserved.new.self.items; flights = c.retain.new.self.items; blinds = map (λ s. s.value) a.blinds.items; tried = a.tried; shelves = (plain g.A.Archive.account.meaning c.write.new.self) })) c.self.view_is (
      record {
        number = refl;
        first = refl;
        legal = mended_legal (IsTrue g.A.Archive.account.tells) (view_of g.A.Archive.account.meaning v) (plain g.A.Archive.account.meaning c.write.new.self) c.args.job c.args.flight c.args.block.now c.self.invariant.0
            (subst (λ (w : GroupParts _). length w.log < 262144) (sym c.self.view_is) c.requires.room)
            (subst (λ (w : GroupParts _). flight_in w.flights c.args.flight.relay.stripe ≡ Some c.args.flight) (sym c.self.view_is) c.requires.here)
            (subst (λ (w : GroupParts _). next_column w.table c.args.flight.relay ≡ None) (sym c.self.view_is) c.requires.next);
        table = rw c.mended-entry.ensures.entry at c.mended-entry.ensures.table;
        log = rw c.mended-entry.ensures.entry at c.push_reserved.ensures.items;
        flights = (filter_same _ (λ (f : Flight). not (f.relay.stripe == c.args.flight.relay.stripe)) _ (λ x b q h. search (rules, tests)) _ _ c.retain.ensures.filtered);
        blinds = refl;
        tried = refl;
      },
      (subst (λ n. WritesAt (IsTrue g.A.Archive.account.tells) n c.args.flight.relay.stripe c.args.block.now (Ok (tt)) (plain g.A.Archive.account.meaning a.archives) (plain g.A.Archive.account.meaning c.write.new.self)) c.archive_of-number.ensures c.in-Ok.ensures),
    )

pub returns-in-Err : goal.returns-in-Err
returns-in-Err g c =
    let a = c.self.inside in
    let v : GroupParts _ = record { number = a.number; first = a.first; table = a.table; log = a.log.items; flights = a.flights.items; blinds = map (λ s. s.value) a.blinds.items; tried = a.tried; shelves = a.archives } in
    subst (λ (w : GroupParts _). EndsRelay (IsTrue g.A.Archive.account.tells) c.args.job c.args.block.now c.args.flight (Err (failed.Faulted c.args.flight.relay.target)) (view_of g.A.Archive.account.meaning w)
    (record { number = a.number; first = a.first; table = c.note.new.table; log = c.note.new.log.items; flights = a.flights.items; blinds = map (λ s. s.value) a.blinds.items; tried = a.tried; shelves = (plain g.A.Archive.account.meaning c.write.new.self) })) c.self.view_is (
      refl,
      record {
        number = refl;
        first = refl;
        legal = fault_legal (IsTrue g.A.Archive.account.tells) (view_of g.A.Archive.account.meaning v) (plain g.A.Archive.account.meaning c.write.new.self) c.args.job c.args.flight c.args.block.now c.self.invariant.0
            (subst (λ (w : GroupParts _). length w.log < 262144) (sym c.self.view_is) c.requires.room)
            (subst (λ (w : GroupParts _). flight_in w.flights c.args.flight.relay.stripe ≡ Some c.args.flight) (sym c.self.view_is) c.requires.here)
            (subst (λ (w : GroupParts _). next_column w.table c.args.flight.relay ≡ None) (sym c.self.view_is) c.requires.next);
        table = c.note.ensures.table;
        log = c.note.ensures.log;
        flights = refl;
        blinds = refl;
        tried = refl;
      },
      (c.in-Err.field-0, (subst (λ n. WritesAt (IsTrue g.A.Archive.account.tells) n c.args.flight.relay.stripe c.args.block.now (Err c.in-Err.field-0) (plain g.A.Archive.account.meaning a.archives) (plain g.A.Archive.account.meaning c.write.new.self)) c.archive_of-number.ensures c.in-Err.ensures)),
    )
