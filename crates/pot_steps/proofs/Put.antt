-- A put keeps the stripe filled.
use Rattle.std.proofs.Common.{◌≡◌, ◌≢◌, ◌⊎◌, ℕ, suc, ◌+◌, ◌<◌, ◌≤◌, bit_xor, refl, sym, ap, ap₂, ◌∙◌, arith, List, Some, None, inl, inr, subst, get_or, nat_eq, if◌then◌else◌}
use Rattle.std.proofs.lemmas.Bool.Decides.{nat_tests}
use Rattle.std.specs.Int.Bits.{xor_zero_l}
use Rattle.std.proofs.lemmas.Option.{same_Some}
use Rattle.pot_bytes.specs.declared.digest.Digest.{Digest}
use Rattle.pot_bytes.specs.Totals.{total}
use Rattle.pot_bytes.specs.Product.{byte_product}
use Rattle.pot_bytes.specs.Sums.{xor, zero_block}
use Rattle.pot_bytes.specs.Weighted.{scaled}
use Rattle.pot_bytes.proofs.ProductLemmas.{byte_product-xor_right, byte_product-below, byte_product-zero_left, byte_product-one_left}
use Rattle.pot_bytes.proofs.WeightedLemmas.{get_or-xor, get_or-scaled}
use Rattle.pot_gf.specs.Field.{power}
use Rattle.pot_machine.specs.declared.slot.SlotState.{SlotState}
use Rattle.pot_machine.specs.declared.slot.SlotState.TheVariants.{Void}
use Rattle.pot_machine.specs.Slot.{digest_in}
use Rattle.pot_bytes.specs.Lists.{IsBlock}
use Rattle.pot_steps.specs.Equations.{p_weight, q_weight}
use Rattle.pot_bytes.specs.Digests.{digest_of}
use Rattle.pot_steps.specs.Stripe.{Stripe, IsSound, Filling, IsOld, PutsIntoStripe}
use Rattle.pot_steps.proofs.SumLemmas.{total_twice}
use Rattle.pot_steps.proofs.BlockLemmas.{get_or-zero_block, IsBlock-xor, IsBlock-scaled}
use Rattle.pot_steps.proofs.Weights.{p_weight-low, p_weight-high, q_weight-low, q_weight-p, q_weight-q}

-- the filling after a put
unfoldable pub with_put : ℕ → ℕ → List ℕ → List ℕ → List ℕ → (ℕ → List ℕ) → ℕ → List ℕ
with_put data_columns c block p q blocks k = if nat_eq k c then block else if nat_eq k data_columns then p else if nat_eq k (suc data_columns) then q else blocks k

module _ (data_columns c : ℕ) (block p q : List ℕ) (blocks : ℕ → List ℕ) where
  at_data : c < data_columns → with_put data_columns c block p q blocks c ≡ block
  unfolding with_put
  at_data h = grind (arith, nat_tests)

  at_p : c < data_columns → with_put data_columns c block p q blocks data_columns ≡ p
  unfolding with_put
  at_p h = grind (arith, nat_tests)

  at_q : c < data_columns → with_put data_columns c block p q blocks (suc data_columns) ≡ q
  unfolding with_put
  at_q h = grind (arith, nat_tests)

  at_other : (k : ℕ) → k < data_columns → k ≢ c → with_put data_columns c block p q blocks k ≡ blocks k
  unfolding with_put
  at_other k h ne = grind (arith, nat_tests)

pub not_void : (x : SlotState) (d : Digest) → digest_in x ≡ Some d → x ≡ Void → ⊥
not_void x d h e = none (sym (ap digest_in e) ∙ h)
  where
    none : None ≡ Some d → ⊥
    none h = cc

-- what a put reads of a parity slot is the filling's block
pub old_is : (data_columns parity : ℕ) (s : Stripe) (blocks : ℕ → List ℕ) (c : ℕ) (old : List ℕ) → Filling data_columns parity s blocks → c < data_columns + parity → IsOld s c old → blocks c ≡ old
old_is data_columns parity s blocks c old f lt h = elim h [ inl e ↦ f.void c lt e.0 ∙ sym e.1 | inr e ↦ f.held c old lt e ]

-- what holds at the column of the put, at the other data columns and at the parity columns holds at
-- each
pub by_column : (P : ℕ → Type 0) (data_columns parity c : ℕ) → parity ≤ 2 → P c → ((k : ℕ) → k < data_columns → k ≢ c → P k) → P data_columns → (parity ≡ 2 → P (suc data_columns)) → (k : ℕ) → k < data_columns + parity → P k
by_column P data_columns parity c le here others at_p at_q k lt = elim (which k data_columns c parity le lt) [
  | inl e ↦ subst P (sym e) here
  | inr (inl h) ↦ others k h.0 h.1
  | inr (inr (inl e)) ↦ subst P (sym e) at_p
  | inr (inr (inr h)) ↦ subst P (sym h.0) (at_q h.1)
]
  where
    which : (k data_columns c parity : ℕ) → parity ≤ 2 → k < data_columns + parity → (k ≡ c) ⊎ (((k < data_columns) × (k ≢ c)) ⊎ ((k ≡ data_columns) ⊎ ((k ≡ suc data_columns) × (parity ≡ 2))))
    which k data_columns c parity le lt = grind arith

module _ (data_columns parity : ℕ) (s s' : Stripe) (c : ℕ) (block p q : List ℕ) (blocks : ℕ → List ℕ) (small : data_columns ≤ 16) (few : parity ≤ 2) (one : 1 ≤ parity) (put : PutsIntoStripe data_columns parity s s' c block p q) (f : Filling data_columns parity s blocks) where
  pub new : ℕ → List ℕ
  unfolding with_put
  new = with_put data_columns c block (xor p block) (xor q (scaled (power 3 c) block)) blocks

  pub new-data : new c ≡ block
  unfolding new
  new-data = at_data data_columns c block (xor p block) (xor q (scaled (power 3 c) block)) blocks put.column

  pub new-p : new data_columns ≡ xor p block
  unfolding new
  new-p = at_p data_columns c block (xor p block) (xor q (scaled (power 3 c) block)) blocks put.column

  pub new-q : new (suc data_columns) ≡ xor q (scaled (power 3 c) block)
  unfolding new
  new-q = at_q data_columns c block (xor p block) (xor q (scaled (power 3 c) block)) blocks put.column

  pub new-other : (k : ℕ) → k < data_columns → k ≢ c → new k ≡ blocks k
  unfolding new
  new-other k h ne = at_other data_columns c block (xor p block) (xor q (scaled (power 3 c) block)) blocks k h ne

  p_is : blocks data_columns ≡ p
  p_is = old_is data_columns parity s blocks data_columns p f (omega arith) put.old_p

  q_is : parity ≡ 2 → blocks (suc data_columns) ≡ q
  q_is two = old_is data_columns parity s blocks (suc data_columns) q f (omega arith) (put.old_q two)

  p_block : IsBlock p
  p_block = subst IsBlock p_is (f.block data_columns (omega arith))

  q_block : parity ≡ 2 → IsBlock q
  q_block two = subst IsBlock (q_is two) (f.block (suc data_columns) (omega arith))

  byte-data : (k : ℕ) → get_or (blocks c) k 0 ≡ 0
  byte-data k = ap (λ b. get_or b k 0) (f.void c (omega arith) put.empty) ∙ get_or-zero_block k

  new_block : (k : ℕ) → k < data_columns + parity → IsBlock (new k)
  new_block = by_column (λ k. IsBlock (new k)) data_columns parity c few
      (subst IsBlock (sym new-data) put.is_block)
      (λ k h ne. subst IsBlock (sym (new-other k h ne)) (f.block k (omega arith)))
      (subst IsBlock (sym new-p) (IsBlock-xor p block p_block put.is_block))
      (λ two. subst IsBlock (sym new-q) (IsBlock-xor q (scaled (power 3 c) block) (q_block two) (IsBlock-scaled (power 3 c) block put.is_block)))

  -- a term of a sum that stays
  stays : (w : ℕ → ℕ) (k j : ℕ) → new j ≡ blocks j → byte_product (w j) (get_or (new j) k 0) ≡ byte_product (w j) (get_or (blocks j) k 0)
  stays w k j e = ap (λ b. byte_product (w j) (get_or b k 0)) e

  -- a term of weight zero
  weightless : (w : ℕ → ℕ) (k j : ℕ) → w j ≡ 0 → byte_product (w j) (get_or (new j) k 0) ≡ byte_product (w j) (get_or (blocks j) k 0)
  weightless w k j e = ap (λ z. byte_product z (get_or (new j) k 0)) e ∙ byte_product-zero_left (get_or (new j) k 0) ∙ sym (ap (λ z. byte_product z (get_or (blocks j) k 0)) e ∙ byte_product-zero_left (get_or (blocks j) k 0))

  -- a term whose block grows by `x`
  grows : (w : ℕ → ℕ) (k j x : ℕ) → get_or (new j) k 0 ≡ bit_xor (get_or (blocks j) k 0) x → byte_product (w j) (get_or (new j) k 0) ≡ bit_xor (byte_product (w j) (get_or (blocks j) k 0)) (byte_product (w j) x)
  grows w k j x e = ap (byte_product (w j)) e ∙ byte_product-xor_right (w j) (get_or (blocks j) k 0) x

  grows_data : (k : ℕ) → get_or (new c) k 0 ≡ bit_xor (get_or (blocks c) k 0) (get_or block k 0)
  grows_data k = ap (λ b. get_or b k 0) new-data ∙ sym (ap (λ z. bit_xor z (get_or block k 0)) (byte-data k) ∙ xor_zero_l (get_or block k 0))

  grows_p : (k : ℕ) → get_or (new data_columns) k 0 ≡ bit_xor (get_or (blocks data_columns) k 0) (get_or block k 0)
  grows_p k = ap (λ b. get_or b k 0) new-p ∙ get_or-xor p block k (p_block.size ∙ sym put.is_block.size) ∙ ap (λ b. bit_xor (get_or b k 0) (get_or block k 0)) (sym p_is)

  grows_q : parity ≡ 2 → (k : ℕ) → get_or (new (suc data_columns)) k 0 ≡ bit_xor (get_or (blocks (suc data_columns)) k 0) (byte_product (power 3 c) (get_or block k 0))
  grows_q two k = ap (λ b. get_or b k 0) new-q ∙ get_or-xor q (scaled (power 3 c) block) k ((q_block two).size ∙ sym (IsBlock-scaled (power 3 c) block put.is_block).size)
      ∙ ap₂ bit_xor (ap (λ b. get_or b k 0) (sym (q_is two))) (get_or-scaled (power 3 c) block k)

  new_p_sum : (k : ℕ) → total (data_columns + parity) (λ j. byte_product (p_weight data_columns j) (get_or (new j) k 0)) ≡ 0
  new_p_sum k = total_twice (data_columns + parity) (λ j. byte_product (p_weight data_columns j) (get_or (blocks j) k 0)) (λ j. byte_product (p_weight data_columns j) (get_or (new j) k 0)) c data_columns (byte_product 1 (get_or block k 0))
      (omega arith) (omega arith)
      (by_column (λ j. j ≢ c → j ≢ data_columns → byte_product (p_weight data_columns j) (get_or (new j) k 0) ≡ byte_product (p_weight data_columns j) (get_or (blocks j) k 0)) data_columns parity c few
      (λ no _. absurd (no refl)) (λ j h ne _ _. stays (p_weight data_columns) k j (new-other j h ne)) (λ _ no. absurd (no refl))
      (λ _ _ _. weightless (p_weight data_columns) k (suc data_columns) (p_weight-high data_columns (suc data_columns) (omega arith))))
      (grows (p_weight data_columns) k c (get_or block k 0) (grows_data k) ∙ ap (λ z. bit_xor (byte_product (p_weight data_columns c) (get_or (blocks c) k 0)) (byte_product z (get_or block k 0))) (p_weight-low data_columns c (omega arith)))
      (grows (p_weight data_columns) k data_columns (get_or block k 0) (grows_p k) ∙ ap (λ z. bit_xor (byte_product (p_weight data_columns data_columns) (get_or (blocks data_columns) k 0)) (byte_product z (get_or block k 0))) (p_weight-low data_columns data_columns (omega arith)))
      (f.p_sum k)

  new_q_sum : parity ≡ 2 → (k : ℕ) → total (data_columns + parity) (λ j. byte_product (q_weight data_columns j) (get_or (new j) k 0)) ≡ 0
  new_q_sum two k = total_twice (data_columns + parity) (λ j. byte_product (q_weight data_columns j) (get_or (blocks j) k 0)) (λ j. byte_product (q_weight data_columns j) (get_or (new j) k 0)) c (suc data_columns) (byte_product (power 3 c) (get_or block k 0))
      (omega arith) (omega arith)
      (by_column (λ j. j ≢ c → j ≢ suc data_columns → byte_product (q_weight data_columns j) (get_or (new j) k 0) ≡ byte_product (q_weight data_columns j) (get_or (blocks j) k 0)) data_columns parity c few
      (λ no _. absurd (no refl)) (λ j h ne _ _. stays (q_weight data_columns) k j (new-other j h ne))
      (λ _ _. weightless (q_weight data_columns) k data_columns (q_weight-p data_columns))
      (λ _ _ no. absurd (no refl)))
      (grows (q_weight data_columns) k c (get_or block k 0) (grows_data k) ∙ ap (λ z. bit_xor (byte_product (q_weight data_columns c) (get_or (blocks c) k 0)) (byte_product z (get_or block k 0))) (q_weight-low data_columns c put.column))
      (grows (q_weight data_columns) k (suc data_columns) (byte_product (power 3 c) (get_or block k 0)) (grows_q two k) ∙ ap (bit_xor (byte_product (q_weight data_columns (suc data_columns)) (get_or (blocks (suc data_columns)) k 0)))
      (ap (λ z. byte_product z (byte_product (power 3 c) (get_or block k 0))) (q_weight-q data_columns (suc data_columns) (omega arith)) ∙ byte_product-one_left (byte_product (power 3 c) (get_or block k 0)) (byte_product-below (power 3 c) (get_or block k 0))))
      (f.q_sum two k)

  -- the slots
  new_digest : (k : ℕ) → k < data_columns + parity → (d : Digest) → digest_in (s'.slots k) ≡ Some d → digest_of (new k) ≡ d
  new_digest = by_column (λ k. (d : Digest) → digest_in (s'.slots k) ≡ Some d → digest_of (new k) ≡ d) data_columns parity c few
      (λ d e. ap digest_of new-data ∙ same_Some _ _ (sym (ap digest_in put.slot) ∙ e))
      (λ k h ne d e. ap digest_of (new-other k h ne) ∙ f.digest k d (omega arith) (sym (ap digest_in (put.other_slots k h ne)) ∙ e))
      (λ d e. ap digest_of new-p ∙ same_Some _ _ (sym put.new_p.digest ∙ e))
      (λ two d e. ap digest_of new-q ∙ same_Some _ _ (sym (put.new_q two).digest ∙ e))

  new_void : (k : ℕ) → k < data_columns + parity → s'.slots k ≡ Void → new k ≡ zero_block
  new_void = by_column (λ k. s'.slots k ≡ Void → new k ≡ zero_block) data_columns parity c few
      (λ e. absurd (not_void _ _ (ap digest_in put.slot) e))
      (λ k h ne e. new-other k h ne ∙ f.void k (omega arith) (sym (put.other_slots k h ne) ∙ e))
      (λ e. absurd (not_void _ _ put.new_p.digest e))
      (λ two e. absurd (not_void _ _ (put.new_q two).digest e))

  new_held : (k : ℕ) → k < data_columns + parity → (b : List ℕ) → IsSound s' k b → new k ≡ b
  new_held = by_column (λ k. (b : List ℕ) → IsSound s' k b → new k ≡ b) data_columns parity c few
      (λ b h. new-data ∙ same_Some _ _ (sym put.written ∙ h.held))
      (λ k h ne b x. new-other k h ne ∙ f.held k b (omega arith) record { digest = x.digest; live = sym (put.other_slots k h ne) ∙ x.live; held = sym (put.other_held k h ne) ∙ x.held; right = x.right })
      (λ b h. new-p ∙ same_Some _ _ (sym (put.new_p.kept h.digest h.live) ∙ h.held))
      (λ two b h. new-q ∙ same_Some _ _ (sym ((put.new_q two).kept h.digest h.live) ∙ h.held))

  pub put_keeps : Filling data_columns parity s' new
  put_keeps = record { block = new_block; void = new_void; digest = λ k d lt. new_digest k lt d; held = λ k b lt. new_held k lt b; p_sum = new_p_sum; q_sum = new_q_sum }
