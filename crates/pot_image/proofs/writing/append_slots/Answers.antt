use Rattle.std.proofs.Common.{arith, ◌≡◌, ◌≤◌, ℕ}
use Rattle.pot_image.proofs.WriteRules.{stripe_grown, all_slots}
use Rattle.pot_image.proofs.WholeRules.{stripe_whole, slots_whole}
use Rattle.pot_image.proofs.writing.append_slots.Goals as goal

pub loop-stripe-preserved : goal.loop-stripe-preserved
loop-stripe-preserved c = (
  stripe_grown c.args.table.now c.loop-stripe.stripe c.args.out.now.items c.loop-stripe.out.items c.append_stripe.new.out.items c.loop-stripe.invariant.0 c.in_ok-append_stripe.ensures.bytes,
  stripe_whole c.args.table.now c.loop-stripe.stripe c.loop-stripe.invariant.1 c.in_ok-append_stripe.ensures.whole,
)

at_end : (a b n : ℕ) → a ≡ b → a ≤ n → b ≤ n
at_end a b n e l = omega (arith, e, l)

pub returns-clause-bytes : goal.returns-clause-bytes
returns-clause-bytes c = all_slots _ _ _ _ c.stripes-stripe-end.ensures.rules (at_end _ _ _ c.stripes-stripe-end.ensures.value c.loop-stripe-test.false) c.loop-stripe.invariant.0

pub returns-clause-whole : goal.returns-clause-whole
returns-clause-whole c = slots_whole _ _ c.stripes-stripe-end.ensures.rules (at_end _ _ _ c.stripes-stripe-end.ensures.value c.loop-stripe-test.false) c.loop-stripe.invariant.1
