-- A put keeps the stripe law, and the law says what it is to say of one parity column.
use Rattle.std.proofs.Common.{◌≡◌, ◌≢◌, ◌⊎◌, ℕ, suc, ◌+◌, ◌≤◌, bit_xor, sym, ap, ◌∙◌, arith, List, None, inl, inr, get_or, nat_eq, if◌then◌else◌, false}
use Rattle.std.proofs.lemmas.Bool.Decides.{nat_tests}
use Rattle.std.specs.Int.Bits.{xor_zero_l}
use Rattle.pot_bytes.specs.declared.digest.Digest.{Digest}
use Rattle.pot_bytes.specs.Totals.{total}
use Rattle.pot_bytes.specs.Product.{byte_product}
use Rattle.pot_bytes.proofs.ProductLemmas.{byte_product-one_left}
use Rattle.pot_bytes.proofs.TotalLemmas.{total_same, total_change, from_zero}
use Rattle.pot_machine.specs.declared.slot.SlotState.{SlotState}
use Rattle.pot_machine.specs.declared.slot.SlotState.TheVariants.{Void, Live, Broken}
use Rattle.pot_machine.specs.Slot.{is_lost}
use Rattle.pot_bytes.specs.Lists.{IsBlock}
use Rattle.pot_machine.proofs.Searches.{count_none}
use Rattle.pot_steps.specs.Equations.{p_weight}
use Rattle.pot_bytes.specs.Digests.{digest_of}
use Rattle.pot_steps.specs.Stripe.{Stripe, Filling, PutsIntoStripe}
use Rattle.pot_steps.specs.Law.{StripeLaw, AllLive, SingleLaw, IsRead}
use Rattle.pot_steps.proofs.BlockLemmas.{same_blocks}
use Rattle.pot_steps.proofs.Weights.{p_weight-low}
use Rattle.pot_steps.proofs.Put.{new, put_keeps}

pub put_keeps_law : (data_columns parity : ℕ) (s s' : Stripe) (c : ℕ) (block p q : List ℕ) → data_columns ≤ 16 → parity ≤ 2 → 1 ≤ parity
    → AllLive data_columns parity s → PutsIntoStripe data_columns parity s s' c block p q → StripeLaw data_columns parity s None → StripeLaw data_columns parity s' None
put_keeps_law data_columns parity s s' c block p q small few one sound put law none le =
    let f : (blocks : ℕ → List ℕ) × Filling data_columns parity s blocks = law (λ k d lt e. unbroken (s.slots k) d (sound k lt) e)
    (inr (rw (count_none (data_columns + parity) (λ k. is_lost (s.slots k)) (λ k lt. unlost (s.slots k) (sound k lt))) (omega arith))) in
    (new data_columns parity s s' c block p q f.0 small few one put f.1, put_keeps data_columns parity s s' c block p q f.0 small few one put f.1)
  where
    unbroken : (x : SlotState) (d : Digest) → (x ≡ Void) ⊎ ((e : Digest) × (x ≡ Live e)) → x ≡ Broken d → ⊥
    unbroken x d (inl e) h = absurd (cc (e, h))
    unbroken x d (inr e) h = (let g : x ≡ Live e.0 = e.1 in cc)

    unlost : (x : SlotState) → (x ≡ Void) ⊎ ((e : Digest) × (x ≡ Live e)) → is_lost x ≡ false
    unlost x (inl e) = ap is_lost e
    unlost x (inr e) = ap is_lost e.1

-- with one parity column the sum of P is the XOR of the blocks
pub plain : (data_columns : ℕ) (f : ℕ → List ℕ) → ((c : ℕ) → c ≤ data_columns → IsBlock (f c)) → (k : ℕ)
    → total (suc data_columns) (λ c. get_or (f c) k 0) ≡ total (data_columns + 1) (λ c. byte_product (p_weight data_columns c) (get_or (f c) k 0))
plain data_columns f block k =
    let e : data_columns + 1 ≡ suc data_columns = omega arith in
    total_same (suc data_columns) _ _ (λ c lt. sym (ap (λ z. byte_product z (get_or (f c) k 0)) (p_weight-low data_columns c (omega arith)) ∙ byte_product-one_left (get_or (f c) k 0) ((block c (omega arith)).bytes k)))
    ∙ ap (λ n. total n (λ c. byte_product (p_weight data_columns c) (get_or (f c) k 0))) (sym e)

plain_sum : (data_columns : ℕ) (s : Stripe) (f : ℕ → List ℕ) → Filling data_columns 1 s f → (k : ℕ) → total (suc data_columns) (λ c. get_or (f c) k 0) ≡ 0
plain_sum data_columns s f h k = plain data_columns f (λ c le. h.block c (omega arith)) k ∙ h.p_sum k

pub single_law : (data_columns : ℕ) (s : Stripe) (f blocks : ℕ → List ℕ) → Filling data_columns 1 s f → SingleLaw data_columns s blocks
single_law data_columns s f blocks h = record {
  whole = λ sound k. total_same (suc data_columns) _ _ (λ c lt. ap (λ b. get_or b k 0) (sym (is c (omega arith) (sound c (omega arith))))) ∙ plain_sum data_columns s f h k;
  but_one = λ u d le e sound rest whole sum.
      let same : rest ≡ f u = same_blocks rest (f u) whole (h.block u (omega arith)) (λ k.
      let g : ℕ → ℕ = λ c. if nat_eq c u then 0 else get_or (blocks c) k 0 in
      let zero_at : g u ≡ 0 = at u (get_or (blocks u) k 0) in
      sum k ∙ from_zero (total (suc data_columns) g) (get_or (f u) k 0)
      (ap (bit_xor (total (suc data_columns) g)) (sym (ap (λ z. bit_xor z (get_or (f u) k 0)) zero_at ∙ xor_zero_l (get_or (f u) k 0)))
      ∙ sym (total_change (suc data_columns) g (λ c. get_or (f c) k 0) u (omega arith) (λ c lt ne. ap (λ b. get_or b k 0) (is c (omega arith) (sound c (omega arith) ne)) ∙ sym (other c u (get_or (blocks c) k 0) ne)))
      ∙ plain_sum data_columns s f h k)) in
      ap digest_of same ∙ h.digest u d (omega arith) e;
}
  where
    is : (c : ℕ) → c ≤ data_columns → IsRead s c (blocks c) → f c ≡ blocks c
    is c le (inl x) = h.held c (blocks c) (omega arith) x
    is c le (inr x) = h.void c (omega arith) x.0 ∙ sym x.1

    at : (u x : ℕ) → (if nat_eq u u then 0 else x) ≡ 0
    at u x = grind (arith, nat_tests)

    other : (c u x : ℕ) → c ≢ u → (if nat_eq c u then 0 else x) ≡ x
    other c u x ne = grind (arith, nat_tests)
