use Rattle.std.proofs.Common.{◌≡◌, ◌<◌, IsTrue, IsSomeAnd, Some, length, map, refl, subst, sym, ap, ◌∙◌, arith, rules, tests, not}
use Rattle.std.specs.Prelude.{Ok, ◌==◌}
use Rattle.std.proofs.lemmas.List.{length-map}
use Rattle.std.proofs.lemmas.Fn.{filter_same}
use Rattle.pot_outside.specs.Archives.{FoldTells}
use Rattle.pot_outside.specs.declared.archive.Held.TheVariants.{Held}
use Rattle.pot_machine.specs.Slot.{is_live}
use Rattle.pot_machine.specs.Table.{slot_at, serving_at, next_column}
use Rattle.pot_steps.specs.Flight.{weight_in}
use Rattle.pot_steps.specs.declared.flight.Flight.{Flight}
use Rattle.pot_steps.specs.Flights.{flight_in}
use Rattle.pot_shelves.specs.Shelves.{plain, numbers_of}
use Rattle.pot_group.specs.Group.{GroupParts, view_of}
use Rattle.pot_group.proofs.RelayExits.{stands_in_table, folded_exit, ended_exit, ended_means, written_all}
use Rattle.pot_group.specs.Relaying.{flown_to}
use Rattle.pot_group.proofs.Arriving.{none_arrived, folded_brings, ended_brings}
use Rattle.pot_group.proofs.group.Group.hop_over.Goals as goal

pub hop-requires-clause-stands : goal.hop-requires-clause-stands
hop-requires-clause-stands g c =
    let a = c.self.inside in
    let v : GroupParts _ = record { number = a.number; first = a.first; table = a.table; log = a.log.items; flights = a.flights.items; blinds = map (λ s. s.value) a.blinds.items; tried = a.tried; shelves = a.archives } in
    stands_in_table (IsTrue g.A.Archive.account.tells) (view_of g.A.Archive.account.meaning v) c.args.flight c.self.invariant.0
    (subst (λ (w : GroupParts _). flight_in w.flights c.args.flight.relay.stripe ≡ Some c.args.flight) (sym c.self.view_is) c.requires.here)

pub invariant_of-self : goal.invariant_of-self
invariant_of-self g c =
    let a = c.self.inside in
    let v : GroupParts _ = record { number = a.number; first = a.first; table = a.table; log = a.log.items; flights = a.flights.items; blinds = map (λ s. s.value) a.blinds.items; tried = a.tried; shelves = a.archives } in
    let fs = c.fly.ensures ∙ ap (map (flown_to c.args.flight.relay.stripe c.hop.new.flight.relay.last c.args.sum.now)) c.deref_mut.ensures.value in (
      folded_exit (IsTrue g.A.Archive.account.tells) (view_of g.A.Archive.account.meaning v) c.args.job c.args.flight c.args.sum.now c.self.invariant.0
          (subst (λ (w : GroupParts _). length w.log < 262144) (sym c.self.view_is) c.requires.room)
          (subst (λ (w : GroupParts _). flight_in w.flights c.args.flight.relay.stripe ≡ Some c.args.flight) (sym c.self.view_is) c.requires.here)
          (subst (λ (w : GroupParts _). c.args.flight.relay.stripe < w.table.stripes) (sym c.self.view_is) c.requires.within)
          (subst (λ (w : GroupParts _). IsSomeAnd (next_column w.table c.args.flight.relay) (λ k. IsTrue (is_live (slot_at w.table c.args.flight.relay.stripe k)) × (IsTrue g.A.Archive.account.tells → FoldTells ((plain g.A.Archive.account.meaning w.shelves).held (serving_at w.table c.args.flight.relay.stripe k)) c.args.flight.relay.stripe (weight_in w.table.data_columns c.args.flight.relay k) c.args.flight.sum c.args.sum.now (Ok Held)))) (sym c.self.view_is) c.requires.next)
          c.in-Folded.entry c.hop.new.table c.hop.new.flight c.push_reserved.new.self.items _ c.in-Folded.ensures c.push_reserved.ensures.items
          (written_all a.flights.len c.fly.new.flights a.flights.items (sym c.deref_mut.ensures.len ∙ ap length c.deref_mut.ensures.value) (ap length fs ∙ length-map a.flights.items (flown_to c.args.flight.relay.stripe c.hop.new.flight.relay.last c.args.sum.now)) ∙ fs),
      omega (arith, c.self.invariant.1, c.push_reserved.ensures.capacity),
      c.self.invariant.2,
      none_arrived a.first a.log.items c.push_reserved.new.self.items c.in-Folded.entry (numbers_of a.archives.shelves) (numbers_of a.archives.shelves) c.self.invariant.3 c.push_reserved.ensures.items (folded_brings c.args.job c.args.sum.now c.in-Folded.entry a.table c.hop.new.table c.args.flight c.hop.new.flight c.in-Folded.ensures) refl,
      c.self.invariant.4,
    )

pub invariant_of-self-in-Ended : goal.invariant_of-self-in-Ended
invariant_of-self-in-Ended g c =
    let a = c.self.inside in
    let v : GroupParts _ = record { number = a.number; first = a.first; table = a.table; log = a.log.items; flights = a.flights.items; blinds = map (λ s. s.value) a.blinds.items; tried = a.tried; shelves = a.archives } in (
      ended_exit (IsTrue g.A.Archive.account.tells) (view_of g.A.Archive.account.meaning v) c.args.job c.args.flight c.args.sum.now c.self.invariant.0
          (subst (λ (w : GroupParts _). length w.log < 262144) (sym c.self.view_is) c.requires.room)
          (subst (λ (w : GroupParts _). flight_in w.flights c.args.flight.relay.stripe ≡ Some c.args.flight) (sym c.self.view_is) c.requires.here)
          (subst (λ (w : GroupParts _). c.args.flight.relay.stripe < w.table.stripes) (sym c.self.view_is) c.requires.within)
          (subst (λ (w : GroupParts _). IsSomeAnd (next_column w.table c.args.flight.relay) (λ k. IsTrue (is_live (slot_at w.table c.args.flight.relay.stripe k)) × (IsTrue g.A.Archive.account.tells → FoldTells ((plain g.A.Archive.account.meaning w.shelves).held (serving_at w.table c.args.flight.relay.stripe k)) c.args.flight.relay.stripe (weight_in w.table.data_columns c.args.flight.relay k) c.args.flight.sum c.args.sum.now (Ok Held)))) (sym c.self.view_is) c.requires.next)
          c.in-Ended.entry c.hop.new.table c.hop.new.flight c.push_reserved-in-Ended.new.self.items _ c.in-Ended.ensures c.push_reserved-in-Ended.ensures.items
          (filter_same _ (λ (f : Flight). not (f.relay.stripe == c.args.flight.relay.stripe)) _ (λ x b q h. search (rules, tests)) _ _ c.retain.ensures.filtered),
      omega (arith, c.self.invariant.1, c.push_reserved-in-Ended.ensures.capacity),
      omega (arith, c.self.invariant.2, c.retain.ensures.capacity),
      none_arrived a.first a.log.items c.push_reserved-in-Ended.new.self.items c.in-Ended.entry (numbers_of a.archives.shelves) (numbers_of a.archives.shelves) c.self.invariant.3 c.push_reserved-in-Ended.ensures.items (ended_brings c.args.job c.args.sum.now c.in-Ended.entry a.table c.hop.new.table c.args.flight c.hop.new.flight c.in-Ended.ensures) refl,
      c.self.invariant.4,
    )

pub returns-in-Ended : goal.returns-in-Ended
returns-in-Ended g c =
    let a = c.self.inside in
    let v : GroupParts _ = record { number = a.number; first = a.first; table = a.table; log = a.log.items; flights = a.flights.items; blinds = map (λ s. s.value) a.blinds.items; tried = a.tried; shelves = a.archives } in
    ended_means c.args.job c.args.sum.now c.args.self.now v c.in-Ended.entry c.hop.new.table c.args.flight c.hop.new.flight c.push_reserved-in-Ended.new.self.items c.retain.new.self.items c.self.view_is
    c.in-Ended.ensures c.push_reserved-in-Ended.ensures.items (filter_same _ (λ (f : Flight). not (f.relay.stripe == c.args.flight.relay.stripe)) _ (λ x b q h. search (rules, tests)) _ _ c.retain.ensures.filtered)
