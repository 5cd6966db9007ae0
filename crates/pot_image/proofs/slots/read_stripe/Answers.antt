use Rattle.pot_image.specs.Reading.{reading}
use Rattle.std.proofs.Common.{ap, sym, ◌∙◌, arith, ◌+◌, refl}
use Rattle.pot_image.proofs.Steps.{fails_as, exits, several_begins, several_on, several_fails, several_done}
use Rattle.std.proofs.Common.{length}
use Rattle.pot_image.specs.Tables.{slot_behind, stripe_slots}
use Rattle.pot_image.proofs.Steps.{counted_more}
use Rattle.pot_image.proofs.slots.read_stripe.Goals as goal

pub read_slot-requires-clause-before : goal.read_slot-requires-clause-before
read_slot-requires-clause-before c = ap length c.deref.ensures.value ∙ c.loop-column.invariant.count

pub loop-column-init : goal.loop-column-init
unfolding stripe_slots
loop-column-init c = record { reads = several_begins _ _ _ _ _ refl; count = omega (arith, c.requires.before) }

pub returns-in_err-slot-clause-reads : goal.returns-in_err-slot-clause-reads
returns-in_err-slot-clause-reads c = exits _ _ _ _ c.from_residual.ensures.1 (fails_as _ _ _ c.loop-column.invariant.reads (several_fails _ _ _ _ _ _ c.loop-column-test.true
    (fails_as _ _ _ (ap (λ xs. reading (slot_behind c.args.cursor c.args.rack.now.columns (c.args.rack.now.columns + c.args.rack.now.parity) c.args.stripe c.loop-column.column xs) c.loop-column.rest.now) c.deref.ensures.value) c.in_err-slot.ensures)))

pub loop-column-preserved : goal.loop-column-preserved
loop-column-preserved c = record {
  reads = sym (several_on _ _ _ _ _ _ _ _ c.loop-column-test.true (sym (ap (λ xs. reading (slot_behind c.args.cursor c.args.rack.now.columns (c.args.rack.now.columns + c.args.rack.now.parity) c.args.stripe c.loop-column.column xs) c.loop-column.rest.now) c.deref.ensures.value) ∙ c.in_ok-slot.ensures) c.in_ok-push.ensures.items) ∙ c.loop-column.invariant.reads;
  count = counted_more _ _ _ _ _ c.in_ok-push.ensures.items c.loop-column.invariant.count;
}

pub returns-clause-reads : goal.returns-clause-reads
returns-clause-reads c = sym c.loop-column.invariant.reads ∙ several_done _ _ _ _ _ c.loop-column-test.false
