use Rattle.std.proofs.Common.{◌≡◌, ◌<◌, ◌≤◌, ◌++◌, ◌∷◌, [], IsTrue, ap, length, subst, sym, ◌∙◌, arith, refl, map}
use Rattle.std.proofs.lemmas.List.{length-map, map-append}
use Rattle.pot_machine.specs.declared.entry.Entry.TheVariants.{Begin}
use Rattle.pot_machine.specs.Machine.{Legal}
use Rattle.pot_shelves.specs.Shelves.{numbers_of}
use Rattle.pot_group.specs.Heard.{begins}
use Rattle.pot_group.specs.Group.{GroupParts, view_of}
use Rattle.pot_group.proofs.Hearing.{begins_few}
use Rattle.pot_group.proofs.RelayExits.{begin_exit}
use Rattle.pot_group.proofs.Arriving.{none_arrived}
use Rattle.pot_group.proofs.group.Group.begin_flight.Goals as goal

pub push_reserved-requires-3 : goal.push_reserved-requires-3
push_reserved-requires-3 g c =
    let a = c.self.inside in
    let v : GroupParts _ = record { number = a.number; first = a.first; table = a.table; log = a.log.items; flights = a.flights.items; blinds = map (λ s. s.value) a.blinds.items; tried = a.tried; shelves = a.archives } in
    let few : begins a.log.items ≤ length a.log.items = begins_few a.log.items in
    let long : length (map (λ s. s.value) a.blinds.items) ≡ length a.blinds.items = length-map a.blinds.items (λ s. s.value) in
    let count : length (map (λ s. s.value) a.blinds.items) ≡ begins a.log.items = c.self.invariant.0.blinds in
    let room : length a.log.items < 262144 = subst (λ (w : GroupParts _). length w.log < 262144) (sym c.self.view_is) c.requires.room in
    omega (arith, few, long, count, room, c.self.invariant.4)

pub invariant_of-self : goal.invariant_of-self
invariant_of-self g c =
    let a = c.self.inside in
    let v : GroupParts _ = record { number = a.number; first = a.first; table = a.table; log = a.log.items; flights = a.flights.items; blinds = map (λ s. s.value) a.blinds.items; tried = a.tried; shelves = a.archives } in (
      begin_exit (IsTrue g.A.Archive.account.tells) (view_of g.A.Archive.account.meaning v) c.args.job c.args.place.stripe c.args.place.column c.args.blind.now
          c.begin-flight.new.table c.push_reserved.new.self.items c.push_reserved-2.new.self.items _ c.self.invariant.0
          (subst (λ (w : GroupParts _). Legal w.table (Begin c.args.job c.args.place.stripe c.args.place.column)) (sym c.self.view_is) c.requires.legal)
          (subst (λ (w : GroupParts _). length w.log < 262144) (sym c.self.view_is) c.requires.room) c.block_law.ensures
          (rw c.begin-flight.ensures.entry at c.begin-flight.ensures.table)
          (rw c.begin-flight.ensures.entry at c.push_reserved.ensures.items)
          (rw c.begin-flight.ensures.flight at c.push_reserved-2.ensures.items)
          (ap (map (λ s. s.value)) c.push_reserved-3.ensures.items ∙ map-append (λ s. s.value) a.blinds.items (c.of.result ∷ []) ∙ ap (λ x. map (λ s. s.value) a.blinds.items ++ x ∷ []) c.of.ensures),
      omega (arith, c.self.invariant.1, c.push_reserved.ensures.capacity),
      omega (arith, c.self.invariant.2, c.push_reserved-2.ensures.capacity),
      none_arrived a.first a.log.items c.push_reserved.new.self.items _ (numbers_of a.archives.shelves) (numbers_of a.archives.shelves) c.self.invariant.3 (rw c.begin-flight.ensures.entry at c.push_reserved.ensures.items) refl refl,
      omega (arith, c.self.invariant.4, c.push_reserved-3.ensures.capacity),
    )
