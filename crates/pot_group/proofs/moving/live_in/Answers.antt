use Rattle.std.proofs.Common.{◌≡◌, ◌≤◌, ◌+◌, sym, ap, ◌∙◌, arith}
use Rattle.pot_machine.specs.Slot.{is_live}
use Rattle.pot_machine.specs.Table.{slot_at, count}
use Rattle.pot_machine.proofs.Searches.{count_zero, count_hit, count_miss, count_most}
use Rattle.pot_group.proofs.moving.live_in.Goals as goal
use Rattle.pot_group.proofs.moving.live_in.Goals.{then-is_live, else-is_live}

pub loop-stripe-init : goal.loop-stripe-init
loop-stripe-init c = sym (count_zero (λ s. is_live (slot_at c.args.table.now s c.args.column)))

pub overflow_add-live : goal.overflow_add-live
overflow_add-live c =
    let most : count c.loop-stripe.stripe (λ s. is_live (slot_at c.args.table.now s c.args.column)) ≤ c.loop-stripe.stripe = count_most c.loop-stripe.stripe (λ s. is_live (slot_at c.args.table.now s c.args.column)) in
    omega (arith, c.loop-stripe.invariant, most, c.loop-stripe-test.true, c.stripes-stripe-end.type_inv)

pub loop-stripe-preserved : goal.loop-stripe-preserved
loop-stripe-preserved c = elim c.if-is_live.branch [
  | then-is_live w ↦ w.live-is ∙ ap (λ n. n + 1) c.loop-stripe.invariant ∙ sym (count_hit c.loop-stripe.stripe (λ s. is_live (slot_at c.args.table.now s c.args.column)) (sym (ap is_live c.slot.ensures) ∙ sym c.is_live.ensures ∙ w.if-is_live.true))
  | else-is_live w ↦ w.live-is ∙ c.loop-stripe.invariant ∙ sym (count_miss c.loop-stripe.stripe (λ s. is_live (slot_at c.args.table.now s c.args.column)) (sym (ap is_live c.slot.ensures) ∙ sym c.is_live.ensures ∙ w.if-is_live.false))
]

pub returns : goal.returns
returns c =
    let all : c.loop-stripe.stripe ≡ c.args.table.now.stripes = omega (arith, c.loop-stripe.auto.stripe-end, c.loop-stripe-test.false, c.stripes-stripe-end.ensures.value) in
    c.loop-stripe.invariant ∙ ap (λ n. count n (λ s. is_live (slot_at c.args.table.now s c.args.column))) all
