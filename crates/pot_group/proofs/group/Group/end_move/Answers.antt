use Rattle.std.proofs.Common.{◌<◌, IsTrue, length, subst, sym, arith, ap, refl, map}
use Rattle.pot_machine.specs.declared.entry.Entry.TheVariants.{MoveEnd}
use Rattle.pot_machine.specs.Machine.{Legal}
use Rattle.pot_shelves.specs.Shelves.{numbers_of}
use Rattle.pot_group.specs.Group.{GroupParts, view_of}
use Rattle.pot_group.specs.Arrivals.{arrival}
use Rattle.pot_group.proofs.Stepping.{ended_exit}
use Rattle.pot_group.proofs.Arriving.{none_arrived}
use Rattle.pot_group.proofs.group.Group.end_move.Goals as goal

pub invariant_of-self : goal.invariant_of-self
invariant_of-self g c =
    let a = c.self.inside in
    let v : GroupParts _ = record { number = a.number; first = a.first; table = a.table; log = a.log.items; flights = a.flights.items; blinds = map (λ s. s.value) a.blinds.items; tried = a.tried; shelves = a.archives } in (
      ended_exit (IsTrue g.A.Archive.account.tells) (view_of g.A.Archive.account.meaning v) c.args.job c.args.column c.self.invariant.0
          (subst (λ (w : GroupParts _). length w.log < 262144) (sym c.self.view_is) c.requires.room)
          (subst (λ (w : GroupParts _). Legal w.table (MoveEnd c.args.job c.args.column)) (sym c.self.view_is) c.requires.legal)
          c.move_end-entry.result c.move_end-entry.new.table c.push_reserved.new.self.items c.move_end-entry.ensures.entry c.move_end-entry.ensures.table c.push_reserved.ensures.items,
      omega (arith, c.self.invariant.1, c.push_reserved.ensures.capacity),
      c.self.invariant.2,
      none_arrived a.first a.log.items c.push_reserved.new.self.items c.move_end-entry.result (numbers_of a.archives.shelves) (numbers_of a.archives.shelves) c.self.invariant.3 c.push_reserved.ensures.items (ap arrival c.move_end-entry.ensures.entry) refl,
      c.self.invariant.4,
    )
