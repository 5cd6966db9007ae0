-- What the law of a stripe says of a stripe that is whole, and of a place that can be rebuilt.
use Rattle.std.proofs.Common.{◌≡◌, ◌≢◌, ◌⊎◌, inl, inr, ℕ, ◌+◌, ◌<◌, List, Option, true, false, get_or, sym, ap, ◌∙◌, arith}
use native.Mathlib.Nat.{le_trans}
use Rattle.pot_bytes.specs.Product.{byte_product}
use Rattle.pot_bytes.proofs.TotalLemmas.{total_same}
use Rattle.pot_machine.specs.declared.slot.SlotState.TheVariants.{Void}
use Rattle.pot_machine.specs.declared.relay.Relay.{Relay}
use Rattle.pot_machine.specs.Slot.{is_lost}
use Rattle.pot_machine.proofs.Searches.{count_none}
use Rattle.pot_steps.specs.Equations.{p_weight, q_weight}
use Rattle.pot_steps.specs.Stripe.{Stripe, Sound, Filling, HasFilling, Whole}
use Rattle.pot_steps.specs.Law.{StripeLaw, IsRead}
use Rattle.pot_steps.specs.Laws.{WholeSums, RebuildableFilled}
use Rattle.pot_steps.proofs.Steps.{count-le}

read_is : (data_columns parity : ℕ) (s : Stripe) (f : ℕ → List ℕ) (c : ℕ) (b : List ℕ) → Filling data_columns parity s f → c < data_columns + parity → IsRead s c b → f c ≡ b
read_is data_columns parity s f c b h lt (inl x) = h.held c b lt x
read_is data_columns parity s f c b h lt (inr x) = h.void c lt x.0 ∙ sym x.1

whole_filled : (data_columns parity : ℕ) (s : Stripe) (relay : Option Relay) → StripeLaw data_columns parity s relay → Whole data_columns parity s → HasFilling data_columns parity s
whole_filled data_columns parity s relay law w =
    law w.none_broken (inr (rw (count_none (data_columns + parity) (λ c. is_lost (s.slots c)) (λ c lt. unlost c (w.sound c lt))) (omega arith)))
  where
    unlost : (c : ℕ) → (s.slots c ≡ Void) ⊎ Sound s c → is_lost (s.slots c) ≡ false
    unlost c (inl e) = ap is_lost e
    unlost c (inr x) = ap is_lost x.1.live

pub whole_sums : WholeSums
whole_sums data_columns parity s relay law w blocks read =
    let f : HasFilling data_columns parity s = whole_filled data_columns parity s relay law w in
    let is : (c : ℕ) → c < data_columns + parity → f.0 c ≡ blocks c = (λ c lt. read_is data_columns parity s f.0 c (blocks c) f.1 lt (read c lt)) in (
      λ k. total_same (data_columns + parity) _ _ (λ c lt. ap (λ b. byte_product (p_weight data_columns c) (get_or b k 0)) (sym (is c lt))) ∙ f.1.p_sum k,
      λ two k. total_same (data_columns + parity) _ _ (λ c lt. ap (λ b. byte_product (q_weight data_columns c) (get_or b k 0)) (sym (is c lt))) ∙ f.1.q_sum two k,
    )

lost_unsound : (s : Stripe) (c : ℕ) → is_lost (s.slots c) ≡ true → (s.slots c ≢ Void) × (Sound s c → ⊥)
lost_unsound s c l = ((λ e. not_lost (sym (ap is_lost e) ∙ l)), λ x. not_lost (sym (ap is_lost x.1.live) ∙ l))
  where
    not_lost : false ≡ true → ⊥
    not_lost e = cc

pub rebuildable_filled : RebuildableFilled
rebuildable_filled data_columns parity s relay c law r =
    law r.none_broken (inr (le_trans (count-le (data_columns + parity) (λ k. is_lost (s.slots k)) r.few.0 (λ k lt l. (r.few.1 k lt).1 (lost_unsound s k l))) r.few.2))
