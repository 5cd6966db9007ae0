use Rattle.std.proofs.Common.{◌≡◌, ◌<◌, IsTrue, Some, length, subst, sym, arith, refl, map}
use Rattle.pot_machine.specs.Table.{width, column_at}
use Rattle.pot_steps.specs.Stripe.{Sound}
use Rattle.pot_steps.specs.Holdings.{stripe_of}
use Rattle.pot_shelves.specs.Shelves.{plain, numbers_of}
use Rattle.pot_group.specs.Group.{GroupParts, view_of}
use Rattle.pot_group.proofs.Stepping.{pass_exit}
use Rattle.pot_group.proofs.Arriving.{none_arrived, moved_brings}
use Rattle.pot_group.proofs.group.Group.pass_slot.Goals as goal

pub invariant_of-self : goal.invariant_of-self
invariant_of-self g c =
    let a = c.self.inside in
    let v : GroupParts _ = record { number = a.number; first = a.first; table = a.table; log = a.log.items; flights = a.flights.items; blinds = map (λ s. s.value) a.blinds.items; tried = a.tried; shelves = a.archives } in (
      pass_exit (IsTrue g.A.Archive.account.tells) (view_of g.A.Archive.account.meaning v) c.args.job c.args.column c.args.moving c.self.invariant.0
          (subst (λ (w : GroupParts _). length w.log < 262144) (sym c.self.view_is) c.requires.room)
          (subst (λ (w : GroupParts _). c.args.column < width w.table) (sym c.self.view_is) c.requires.column)
          (subst (λ (w : GroupParts _). (column_at w.table c.args.column).moving ≡ Some c.args.moving) (sym c.self.view_is) c.requires.moves)
          (subst (λ (w : GroupParts _). c.args.moving.upto < w.table.stripes) (sym c.self.view_is) c.requires.stripe)
          (subst (λ (w : GroupParts _). IsTrue g.A.Archive.account.tells → Sound (stripe_of w.table (plain g.A.Archive.account.meaning w.shelves).held c.args.moving.upto) c.args.column → ⊥) (sym c.self.view_is) c.requires.missing)
          c.move_one-entry.result c.move_one-entry.new.table c.push_reserved.new.self.items c.move_one-entry.ensures.entry c.move_one-entry.ensures.table c.push_reserved.ensures.items,
      omega (arith, c.self.invariant.1, c.push_reserved.ensures.capacity),
      c.self.invariant.2,
      none_arrived a.first a.log.items c.push_reserved.new.self.items c.move_one-entry.result (numbers_of a.archives.shelves) (numbers_of a.archives.shelves) c.self.invariant.3 c.push_reserved.ensures.items (moved_brings _ _ _ _ _ c.move_one-entry.ensures.entry) refl,
      c.self.invariant.4,
    )
