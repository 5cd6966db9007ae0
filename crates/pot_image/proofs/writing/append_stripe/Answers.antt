use Rattle.std.proofs.Common.{ap, ◌∙◌, ◌++◌, arith, ◌≡◌, ◌<◌, ◌+◌, ℕ, subst}
use Rattle.pot_image.specs.Rules.{HasSlotDigest}
use Rattle.pot_image.specs.Spelling.{slot_bytes}
use Rattle.pot_image.proofs.WriteRules.{slot_grown}
use Rattle.pot_image.proofs.WholeRules.{slot_whole}
use Rattle.pot_image.proofs.writing.append_stripe.Goals as goal

pub loop-column-preserved : goal.loop-column-preserved
loop-column-preserved c =
    let inside = below c.loop-column.column _ _ _ _ c.loop-column-test.true c.data_columns.ensures.value c.parity.ensures.value in (
      slot_grown _ _ _ _ _ _ c.data_columns.ensures.rules c.requires inside c.loop-column.invariant.0 (c.in_ok-append_slot.ensures.bytes ∙ ap (λ x. c.loop-column.out.items ++ slot_bytes x) c.slot.ensures),
      slot_whole _ _ _ c.data_columns.ensures.rules c.requires inside c.loop-column.invariant.1 (subst HasSlotDigest c.slot.ensures c.in_ok-append_slot.ensures.whole),
    )
  where
    below : (k a b d e : ℕ) → k < a + b → a ≡ d → b ≡ e → k < d + e
    below k a b d e l q r = omega (arith, l, q, r)
