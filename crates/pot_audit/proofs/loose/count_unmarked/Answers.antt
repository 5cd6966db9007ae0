use Rattle.std.proofs.Common.{◌≡◌, ◌+◌, ◌&&◌, not, ℕ, Bool, sym, ap, ◌∙◌, arith}
use Rattle.pot_machine.specs.Slot.{is_void}
use Rattle.pot_machine.specs.Table.{slot_at}
use Rattle.pot_machine.proofs.Searches.{count_zero, count_hit, count_miss}
use Rattle.pot_audit.specs.Loose.{is_marked}
use Rattle.pot_audit.proofs.loose.count_unmarked.Goals as goal
use Rattle.pot_audit.proofs.loose.count_unmarked.Goals.{then-is_unmarked, else-is_unmarked}

pub loop-stripe-init : goal.loop-stripe-init
loop-stripe-init c = record { is = sym (count_zero _); few = omega arith }

pub loop-stripe-preserved : goal.loop-stripe-preserved
loop-stripe-preserved c =
    let test : ℕ → Bool = λ s. not (is_void (slot_at c.args.table.now s c.args.column)) && not (is_marked c.args.marks.now s) in
    let here : c.is_unmarked.result ≡ test c.loop-stripe.stripe = c.is_unmarked.ensures in
    elim c.if-is_unmarked.branch [
      | then-is_unmarked w ↦ record {
        is = w.count-is ∙ ap (λ (n : ℕ). n + 1) c.loop-stripe.invariant.is ∙ sym (count_hit c.loop-stripe.stripe test (sym here ∙ w.if-is_unmarked.true));
        few = omega (arith, w.count-is, c.loop-stripe.invariant.few);
      }
      | else-is_unmarked w ↦ record {
        is = w.count-is ∙ c.loop-stripe.invariant.is ∙ sym (count_miss c.loop-stripe.stripe test (sym here ∙ w.if-is_unmarked.false));
        few = omega (arith, w.count-is, c.loop-stripe.invariant.few);
      }
    ]
