use Rattle.std.proofs.Common.{refl, arith}
use Rattle.pots_rescue.specs.Parity.{parity_at, in_stripe}
use Rattle.pot_recheck.proofs.Rows.{rows_more, rows_end}
use Rattle.pots_rescue.proofs.parity.append_stripe.Goals as goal

pub loop-number-preserved : goal.loop-number-preserved
loop-number-preserved c =
    rows_more (parity_at c.args.group c.args.table.now c.args.stripe) c.loop-number.number _ _ _ _ c.loop-number.invariant c.in_ok-append_slot.ensures refl

pub returns : goal.returns
unfolding in_stripe
returns c =
    rows_end (parity_at c.args.group c.args.table.now c.args.stripe) c.loop-number.number _ _ _ c.loop-number.invariant (omega (arith, c.loop-number-test.false, c.loop-number.auto.number-end, c.parity-number-end.ensures.value))
