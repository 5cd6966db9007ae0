use Rattle.std.proofs.Common.{◌<◌, IsTrue, length, subst, sym, arith, refl, map}
use Rattle.pot_machine.specs.Machine.{Legal}
use Rattle.pot_shelves.specs.Shelves.{numbers_of}
use Rattle.pot_group.specs.Group.{GroupParts, view_of, IsQuiet}
use Rattle.pot_group.proofs.Settled.{settled_quiet}
use Rattle.pot_group.proofs.Arriving.{none_arrived, quiet_brings}
use Rattle.pot_group.proofs.group.Group.note.Goals as goal

pub invariant_of-self : goal.invariant_of-self
invariant_of-self g c =
    let a = c.self.inside in
    let v : GroupParts _ = record { number = a.number; first = a.first; table = a.table; log = a.log.items; flights = a.flights.items; blinds = map (λ s. s.value) a.blinds.items; tried = a.tried; shelves = a.archives } in
    let s = settled_quiet (IsTrue g.A.Archive.account.tells) (view_of g.A.Archive.account.meaning v) c.args.entry c.self.invariant.0
    (subst (λ (w : GroupParts _). Legal w.table c.args.entry) (sym c.self.view_is) c.requires.legal)
    (subst (λ (w : GroupParts _). length w.log < 262144) (sym c.self.view_is) c.requires.room)
    (subst (λ (w : GroupParts _). IsQuiet (IsTrue g.A.Archive.account.tells) (view_of g.A.Archive.account.meaning w) c.args.entry) (sym c.self.view_is) c.requires.quiet) in
    let none = quiet_brings (IsTrue g.A.Archive.account.tells) (view_of g.A.Archive.account.meaning v) c.args.entry
    (subst (λ (w : GroupParts _). IsQuiet (IsTrue g.A.Archive.account.tells) (view_of g.A.Archive.account.meaning w) c.args.entry) (sym c.self.view_is) c.requires.quiet) in (
      rw (c.note.ensures.table, c.note.ensures.log) s,
      omega (arith, c.self.invariant.1, c.note.ensures.capacity),
      c.self.invariant.2,
      none_arrived a.first a.log.items c.note.new.log.items c.args.entry (numbers_of a.archives.shelves) (numbers_of a.archives.shelves) c.self.invariant.3 c.note.ensures.log none refl,
      c.self.invariant.4,
    )
