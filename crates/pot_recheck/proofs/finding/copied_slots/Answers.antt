use Rattle.std.proofs.Common.{arith}
use Rattle.pot_recheck.proofs.Copying.{stripe_copied, all_copied}
use Rattle.pot_recheck.proofs.finding.copied_slots.Goals as goal

pub loop-stripe-preserved : goal.loop-stripe-preserved
loop-stripe-preserved c = stripe_copied c.args.table.now c.loop-stripe.stripe _ _ c.loop-stripe.invariant c.in_ok-append_slots.ensures

pub returns : goal.returns
returns c = all_copied c.args.table.now c.loop-stripe.stripe _ c.stripes-stripe-end.ensures.rules (omega (arith, c.loop-stripe-test.false, c.stripes-stripe-end.ensures.value)) c.loop-stripe.invariant
