use Rattle.std.proofs.Common.{◌<◌, IsTrue, [], ◌∷◌, length, subst, sym, ap, arith, map}
use Rattle.std.specs.Prelude.{Contains}
use Rattle.pot_shelves.specs.Shelves.{Shelved, plain, numbers_of}
use Rattle.pot_group.specs.Group.{GroupParts, IsSettled, view_of, with_archives}
use Rattle.pot_group.specs.Arrivals.{arrival, HasArrived}
use Rattle.pot_machine.specs.declared.entry.Entry.TheVariants.{MoveBegin}
use Rattle.pot_machine.specs.Machine.{Legal}
use Rattle.pot_group.proofs.Arriving.{arrived}
use Rattle.pot_group.proofs.Brought.{settled_brings}
use Rattle.pot_group.proofs.MovingCalls.{go_exit, came}
use Rattle.pot_group.proofs.group.Group.go_to.Goals as goal

pub invariant_of-self : goal.invariant_of-self
invariant_of-self g c =
    let a = c.self.inside in
    let v : GroupParts _ = record { number = a.number; first = a.first; table = a.table; log = a.log.items; flights = a.flights.items; blinds = map (λ s. s.value) a.blinds.items; tried = a.tried; shelves = a.archives } in (
      go_exit (IsTrue g.A.Archive.account.tells) (view_of g.A.Archive.account.meaning (with_archives v c.bring.new.self)) c.args.job c.args.column c.args.shelf.number c.move_begin-entry.result c.move_begin-entry.new.table c.push_reserved.new.self.items
          (settled_brings (IsTrue g.A.Archive.account.tells) (view_of g.A.Archive.account.meaning v) c.args.shelf.number (g.A.Archive.account.meaning c.args.shelf.archive) (plain g.A.Archive.account.meaning c.bring.new.self) c.self.invariant.0
          (subst (λ (w : GroupParts _). Contains (plain g.A.Archive.account.meaning w.shelves).numbers c.args.shelf.number → ⊥) (sym c.self.view_is) c.requires.fresh) c.in-Ok.ensures.brought)
          (subst (λ (w : GroupParts _). length w.log < 262144) (sym c.self.view_is) c.requires.room)
          (subst (λ (w : GroupParts _). Legal w.table (MoveBegin c.args.job c.args.column c.args.shelf.number)) (sym c.self.view_is) c.requires.legal)
          (came (IsTrue g.A.Archive.account.tells) g.A.Archive.account.meaning a.archives c.bring.new.self c.args.shelf c.in-Ok.ensures.brought)
          c.move_begin-entry.ensures.entry c.move_begin-entry.ensures.table c.push_reserved.ensures.items,
      omega (arith, c.self.invariant.1, c.push_reserved.ensures.capacity),
      c.self.invariant.2,
      arrived a.first a.log.items c.push_reserved.new.self.items c.move_begin-entry.result (c.args.shelf.number ∷ []) (numbers_of a.archives.shelves) (numbers_of c.bring.new.self.shelves) c.self.invariant.3 c.push_reserved.ensures.items (ap arrival c.move_begin-entry.ensures.entry) c.in-Ok.ensures.brought.numbers,
      c.self.invariant.4,
    )

pub invariant_of-self-in-Err : goal.invariant_of-self-in-Err
invariant_of-self-in-Err g c =
    let a = c.self.inside in
    let v : GroupParts _ = record { number = a.number; first = a.first; table = a.table; log = a.log.items; flights = a.flights.items; blinds = map (λ s. s.value) a.blinds.items; tried = a.tried; shelves = a.archives } in (
      subst (λ (b : Shelved _). IsSettled (IsTrue g.A.Archive.account.tells) (view_of g.A.Archive.account.meaning (with_archives v b))) (sym c.in-Err.ensures.refused.1) c.self.invariant.0,
      c.self.invariant.1,
      c.self.invariant.2,
      subst (λ (b : Shelved _). HasArrived a.first a.log.items (numbers_of b.shelves)) (sym c.in-Err.ensures.refused.1) c.self.invariant.3,
      c.self.invariant.4,
    )
