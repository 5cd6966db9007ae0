use Rattle.std.proofs.Common.{arith, refl, ap, sym, subst}
use Rattle.std.specs.Prelude.{Contains, length}
use Rattle.pot_index.specs.declared.entry.IndexEntry.TheVariants.{Publish}
use Rattle.pot_index.specs.declared.reservation.Reservation.{Reservation}
use Rattle.pot_index.specs.Index.{IndexView, IsReservedBy}
use Rattle.pot_index.proofs.ListLemmas.{log_is, bringing_room, brought_fits, length-values, values_grown}
use Rattle.pot_index.proofs.NameLemmas.{length-without, contains_map}
use Rattle.pot_index.proofs.PublishLemmas.{published_view}
use Rattle.pot_index.proofs.lists.Lists.publish.Goals as goal

pub push_reserved-requires : goal.push_reserved-requires
push_reserved-requires c =
    omega (arith, c.self.inside.brought.ok, brought_fits _ _ _ _ c.self.invariant (omega (arith, log_is c.args.self.now _ _ _ _ _ _ c.self.view_is)))

pub push_reserved-requires-2 : goal.push_reserved-requires-2
push_reserved-requires-2 c = omega (arith, c.self.inside.log.ok, log_is c.args.self.now _ _ _ _ _ _ c.self.view_is)

pub invariant_of-self : goal.invariant_of-self
invariant_of-self c =
    let mine : Reservation = record { name = c.args.kept.name; job = c.args.job } in
    let held = c.self.inside.reserved.items in
    let there : Contains held mine = subst (λ (v : IndexView). IsReservedBy v.now c.args.job c.args.kept.name) (sym c.self.view_is) c.requires.reserved in
    let one_less = length-without c.args.kept.name held (contains_map (λ x. x.name) mine held there) in
    bringing_room _ _ _ _ _ _ _ _ (Publish c.args.job c.args.kept.name c.mark_of-mark.result) _ c.self.invariant c.push_reserved-2.ensures.items c.push_reserved.ensures.items refl c.push_reserved-2.ensures.capacity c.push_reserved.ensures.capacity
    (omega (arith, c.self.invariant.records_room, ap length c.release.ensures.items, one_less, c.in-Ok.ensures.len, c.in-Ok.ensures.capacity, c.insert.new.self.ok, c.self.inside.records.ok))

pub returns : goal.returns
returns c =
    published_view c.args.self.now _ _ _ _ _ _ _ _ _ _ c.args.job c.args.kept c.mark_of-mark.result c.args.at c.self.view_is
    (length-values _ _ _ _ c.self.invariant) c.mark_of-mark.ensures (values_grown _ _ _ c.args.kept c.push_reserved.ensures.items c.of.ensures)
    c.requires.place c.in-Ok.ensures.items c.release.ensures.items c.push_reserved-2.ensures.items
