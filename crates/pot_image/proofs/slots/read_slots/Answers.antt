use Rattle.std.proofs.Common.{ap, sym, ◌∙◌, arith, ◌≡◌, ◌+◌}
use Rattle.pot_image.proofs.Steps.{fails_as, exits, over_begins, over_on, over_fails, over_done}
use Rattle.std.proofs.Common.{length, ◌*◌}
use Rattle.pot_image.specs.Tables.{slots}
use Rattle.pot_image.proofs.slots.read_slots.Goals as goal

pub loop-stripe-init : goal.loop-stripe-init
unfolding slots
loop-stripe-init c = record { reads = over_begins _ _ _ _ _ c.in_ok-slots.ensures.items; count = ap length c.in_ok-slots.ensures.items ∙ none }
  where
    none : 0 ≡ 0 * (c.args.rack.now.columns + c.args.rack.now.parity)
    none = omega arith

pub returns-in_err-rest-clause-reads : goal.returns-in_err-rest-clause-reads
returns-in_err-rest-clause-reads c = exits _ _ _ _ c.from_residual-in_err-rest.ensures.1 (fails_as _ _ _ c.loop-stripe.invariant.reads (over_fails _ _ _ _ _ _ c.loop-stripe-test.true c.in_err-rest.ensures.reads))

pub loop-stripe-preserved : goal.loop-stripe-preserved
loop-stripe-preserved c = record {
  reads = sym (over_on _ _ _ _ _ _ _ c.loop-stripe-test.true c.in_ok-rest.ensures.reads) ∙ c.loop-stripe.invariant.reads;
  count = c.in_ok-rest.ensures.count ∙ next;
}
  where
    next : c.loop-stripe.stripe * (c.args.rack.now.columns + c.args.rack.now.parity) + (c.args.rack.now.columns + c.args.rack.now.parity) ≡ (c.loop-stripe.stripe + 1) * (c.args.rack.now.columns + c.args.rack.now.parity)
    next = grind arith

pub returns-clause-reads : goal.returns-clause-reads
returns-clause-reads c = sym c.loop-stripe.invariant.reads ∙ over_done _ _ _ _ _ c.loop-stripe-test.false
