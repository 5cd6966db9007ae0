use Rattle.std.proofs.Common.{◌≡◌, ◌<◌, IsTrue, Some, length, refl, subst, sym, arith, map}
use Rattle.std.specs.Prelude.{Ok, Err}
use Rattle.pot_machine.specs.Slot.{is_live}
use Rattle.pot_machine.specs.Table.{width, column_at, slot_at}
use Rattle.pot_steps.specs.Stripe.{IsSound}
use Rattle.pot_steps.specs.Holdings.{stripe_of}
use Rattle.pot_group.specs.declared.copying.MoveStep.TheVariants as moved
use Rattle.pot_group.specs.declared.copying.MoveFault.TheVariants as failed
use Rattle.pot_shelves.specs.Shelves.{plain, numbers_of}
use Rattle.pot_group.specs.Group.{GroupParts, view_of}
use Rattle.pot_group.specs.Moving.{StepsMove}
use Rattle.pot_group.proofs.MoveExits.{target_there}
use Rattle.pot_group.proofs.Stepping.{copied_exit, copied_steps, uncopied_exit, uncopied_steps}
use Rattle.pot_group.proofs.Arriving.{none_arrived, moved_brings}
use Rattle.pot_group.proofs.group.Group.write_copy.Goals as goal

pub write-requires : goal.write-requires
write-requires g c =
    let a = c.self.inside in
    let v : GroupParts _ = record { number = a.number; first = a.first; table = a.table; log = a.log.items; flights = a.flights.items; blinds = map (λ s. s.value) a.blinds.items; tried = a.tried; shelves = a.archives } in
    target_there (IsTrue g.A.Archive.account.tells) (view_of g.A.Archive.account.meaning v) c.args.moving.upto c.args.column c.args.moving c.self.invariant.0
    (subst (λ (w : GroupParts _). c.args.column < width w.table) (sym c.self.view_is) c.requires.column)
    (subst (λ (w : GroupParts _). (column_at w.table c.args.column).moving ≡ Some c.args.moving) (sym c.self.view_is) c.requires.moves) refl

pub invariant_of-self : goal.invariant_of-self
invariant_of-self g c =
    let a = c.self.inside in
    let v : GroupParts _ = record { number = a.number; first = a.first; table = a.table; log = a.log.items; flights = a.flights.items; blinds = map (λ s. s.value) a.blinds.items; tried = a.tried; shelves = a.archives } in (
      copied_exit (IsTrue g.A.Archive.account.tells) (view_of g.A.Archive.account.meaning v) c.args.job c.args.column c.args.moving c.self.invariant.0
          (subst (λ (w : GroupParts _). length w.log < 262144) (sym c.self.view_is) c.requires.room)
          (subst (λ (w : GroupParts _). c.args.column < width w.table) (sym c.self.view_is) c.requires.column)
          (subst (λ (w : GroupParts _). (column_at w.table c.args.column).moving ≡ Some c.args.moving) (sym c.self.view_is) c.requires.moves)
          (subst (λ (w : GroupParts _). c.args.moving.upto < w.table.stripes) (sym c.self.view_is) c.requires.stripe)
          (subst (λ (w : GroupParts _). IsTrue (is_live (slot_at w.table c.args.moving.upto c.args.column))) (sym c.self.view_is) c.requires.live) (plain g.A.Archive.account.meaning c.write.new.self) c.args.block.now
          (subst (λ (w : GroupParts _). IsTrue g.A.Archive.account.tells → IsSound (stripe_of w.table (plain g.A.Archive.account.meaning w.shelves).held c.args.moving.upto) c.args.column c.args.block.now) (sym c.self.view_is) c.requires.sound) c.in-Ok.ensures c.move_one-entry.result c.move_one-entry.new.table c.push_reserved.new.self.items c.move_one-entry.ensures.entry c.move_one-entry.ensures.table c.push_reserved.ensures.items,
      omega (arith, c.self.invariant.1, c.push_reserved.ensures.capacity),
      c.self.invariant.2,
      none_arrived a.first a.log.items c.push_reserved.new.self.items c.move_one-entry.result (numbers_of a.archives.shelves) (numbers_of c.write.new.self.shelves) c.self.invariant.3 c.push_reserved.ensures.items (moved_brings _ _ _ _ _ c.move_one-entry.ensures.entry) c.write.ensures.keeps.numbers,
      c.self.invariant.4,
    )

pub invariant_of-self-in-Err : goal.invariant_of-self-in-Err
invariant_of-self-in-Err g c =
    let a = c.self.inside in
    let v : GroupParts _ = record { number = a.number; first = a.first; table = a.table; log = a.log.items; flights = a.flights.items; blinds = map (λ s. s.value) a.blinds.items; tried = a.tried; shelves = a.archives } in (
      uncopied_exit (IsTrue g.A.Archive.account.tells) (view_of g.A.Archive.account.meaning v) c.args.job c.args.column c.args.moving c.self.invariant.0
          (subst (λ (w : GroupParts _). length w.log < 262144) (sym c.self.view_is) c.requires.room)
          (subst (λ (w : GroupParts _). c.args.column < width w.table) (sym c.self.view_is) c.requires.column)
          (subst (λ (w : GroupParts _). (column_at w.table c.args.column).moving ≡ Some c.args.moving) (sym c.self.view_is) c.requires.moves)
          (subst (λ (w : GroupParts _). c.args.moving.upto < w.table.stripes) (sym c.self.view_is) c.requires.stripe)
          (subst (λ (w : GroupParts _). IsTrue (is_live (slot_at w.table c.args.moving.upto c.args.column))) (sym c.self.view_is) c.requires.live) (plain g.A.Archive.account.meaning c.write.new.self) c.args.block.now c.in-Err.field-0 c.in-Err.ensures c.note.new.table c.note.new.log.items c.note.ensures.table c.note.ensures.log
          (subst (λ (w : GroupParts _). IsTrue g.A.Archive.account.tells → IsSound (stripe_of w.table (plain g.A.Archive.account.meaning w.shelves).held c.args.moving.upto) c.args.column c.args.block.now) (sym c.self.view_is) c.requires.sound),
      omega (arith, c.self.invariant.1, c.note.ensures.capacity),
      c.self.invariant.2,
      none_arrived a.first a.log.items c.note.new.log.items _ (numbers_of a.archives.shelves) (numbers_of c.write.new.self.shelves) c.self.invariant.3 c.note.ensures.log refl c.write.ensures.keeps.numbers,
      c.self.invariant.4,
    )

pub returns-in-Ok : goal.returns-in-Ok
returns-in-Ok g c =
    let a = c.self.inside in
    let v : GroupParts _ = record { number = a.number; first = a.first; table = a.table; log = a.log.items; flights = a.flights.items; blinds = map (λ s. s.value) a.blinds.items; tried = a.tried; shelves = a.archives } in
    subst (λ (w : GroupParts _). StepsMove (IsTrue g.A.Archive.account.tells) c.args.job c.args.column (Ok moved.Copied) (view_of g.A.Archive.account.meaning w)
    (record { number = a.number; first = a.first; table = c.move_one-entry.new.table; log = c.push_reserved.new.self.items; flights = a.flights.items; blinds = map (λ s. s.value) a.blinds.items; tried = a.tried; shelves = (plain g.A.Archive.account.meaning c.write.new.self) })) c.self.view_is
    (copied_steps (IsTrue g.A.Archive.account.tells) (view_of g.A.Archive.account.meaning v) c.args.job c.args.column c.args.moving c.self.invariant.0
    (subst (λ (w : GroupParts _). length w.log < 262144) (sym c.self.view_is) c.requires.room)
    (subst (λ (w : GroupParts _). c.args.column < width w.table) (sym c.self.view_is) c.requires.column)
    (subst (λ (w : GroupParts _). (column_at w.table c.args.column).moving ≡ Some c.args.moving) (sym c.self.view_is) c.requires.moves)
    (subst (λ (w : GroupParts _). c.args.moving.upto < w.table.stripes) (sym c.self.view_is) c.requires.stripe)
    (subst (λ (w : GroupParts _). IsTrue (is_live (slot_at w.table c.args.moving.upto c.args.column))) (sym c.self.view_is) c.requires.live) (plain g.A.Archive.account.meaning c.write.new.self) c.args.block.now
    (subst (λ (w : GroupParts _). IsTrue g.A.Archive.account.tells → IsSound (stripe_of w.table (plain g.A.Archive.account.meaning w.shelves).held c.args.moving.upto) c.args.column c.args.block.now) (sym c.self.view_is) c.requires.sound) c.in-Ok.ensures c.move_one-entry.result c.move_one-entry.new.table c.push_reserved.new.self.items c.move_one-entry.ensures.entry c.move_one-entry.ensures.table c.push_reserved.ensures.items)

pub returns-in-Err : goal.returns-in-Err
returns-in-Err g c =
    let a = c.self.inside in
    let v : GroupParts _ = record { number = a.number; first = a.first; table = a.table; log = a.log.items; flights = a.flights.items; blinds = map (λ s. s.value) a.blinds.items; tried = a.tried; shelves = a.archives } in
    subst (λ (w : GroupParts _). StepsMove (IsTrue g.A.Archive.account.tells) c.args.job c.args.column (Err (failed.Faulted c.args.column)) (view_of g.A.Archive.account.meaning w)
    (record { number = a.number; first = a.first; table = c.note.new.table; log = c.note.new.log.items; flights = a.flights.items; blinds = map (λ s. s.value) a.blinds.items; tried = a.tried; shelves = (plain g.A.Archive.account.meaning c.write.new.self) })) c.self.view_is
    (uncopied_steps (IsTrue g.A.Archive.account.tells) (view_of g.A.Archive.account.meaning v) c.args.job c.args.column c.args.moving c.self.invariant.0
    (subst (λ (w : GroupParts _). length w.log < 262144) (sym c.self.view_is) c.requires.room)
    (subst (λ (w : GroupParts _). c.args.column < width w.table) (sym c.self.view_is) c.requires.column)
    (subst (λ (w : GroupParts _). (column_at w.table c.args.column).moving ≡ Some c.args.moving) (sym c.self.view_is) c.requires.moves)
    (subst (λ (w : GroupParts _). c.args.moving.upto < w.table.stripes) (sym c.self.view_is) c.requires.stripe)
    (subst (λ (w : GroupParts _). IsTrue (is_live (slot_at w.table c.args.moving.upto c.args.column))) (sym c.self.view_is) c.requires.live) (plain g.A.Archive.account.meaning c.write.new.self) c.args.block.now c.in-Err.field-0 c.in-Err.ensures c.note.new.table c.note.new.log.items c.note.ensures.table c.note.ensures.log
    (subst (λ (w : GroupParts _). IsTrue g.A.Archive.account.tells → IsSound (stripe_of w.table (plain g.A.Archive.account.meaning w.shelves).held c.args.moving.upto) c.args.column c.args.block.now) (sym c.self.view_is) c.requires.sound))
