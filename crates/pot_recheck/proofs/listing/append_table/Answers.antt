use Rattle.std.proofs.Common.{refl, arith}
use Rattle.pot_recheck.specs.Listing.{in_stripe, in_table}
use Rattle.pot_recheck.proofs.Rows.{rows_more, rows_end}
use Rattle.pot_recheck.proofs.listing.append_table.Goals as goal

pub loop-stripe-preserved : goal.loop-stripe-preserved
loop-stripe-preserved c =
    rows_more (in_stripe c.args.group c.args.table.now) c.loop-stripe.stripe _ _ _ _ c.loop-stripe.invariant c.in_ok-append_stripe.ensures refl

pub returns : goal.returns
unfolding in_table
returns c =
    rows_end (in_stripe c.args.group c.args.table.now) c.loop-stripe.stripe _ _ _ c.loop-stripe.invariant (omega (arith, c.loop-stripe-test.false, c.loop-stripe.auto.stripe-end, c.stripes-stripe-end.ensures.value))
