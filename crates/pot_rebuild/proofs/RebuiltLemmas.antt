-- The computed block is that of every filling with the other blocks.
use Rattle.std.proofs.Common.{◌≡◌, ◌≢◌, ℕ, suc, ◌+◌, ◌<◌, bit_xor, refl, sym, ap, ◌∙◌, arith, List, Some, inl, subst, get_or, nat_eq, if◌then◌else◌}
use Rattle.std.proofs.lemmas.Bool.Decides.{nat_tests}
use Rattle.std.specs.Int.Bits.{xor_zero_r}
use Rattle.pot_bytes.specs.declared.digest.Digest.{Digest}
use Rattle.pot_bytes.specs.Digests.{digest_of}
use Rattle.pot_bytes.specs.Lists.{IsBlock}
use Rattle.pot_bytes.specs.Product.{byte_product}
use Rattle.pot_bytes.specs.Sums.{zero_block}
use Rattle.pot_bytes.specs.Totals.{total}
use Rattle.pot_machine.specs.declared.slot.SlotState.TheVariants.{Void, Live}
use Rattle.pot_steps.specs.Decides.{Computed, IsStripeRead}
use Rattle.pot_steps.specs.Flight.{weight, p_times, q_times}
use Rattle.pot_steps.specs.Laws.{AreDistinctColumns, FitsColumns}
use Rattle.pot_steps.specs.Stripe.{Stripe, Filling}
use Rattle.pot_bytes.specs.Sums.{xor}
use Rattle.pot_bytes.specs.Weighted.{scaled}
use Rattle.pot_bytes.proofs.WeightedLemmas.{get_or-xor, get_or-scaled}
use Rattle.pot_steps.proofs.BlockLemmas.{get_or-zero_block, IsBlock-xor, IsBlock-scaled}
use Rattle.pot_steps.proofs.Decides.{filling_computed}
use Rattle.pot_rebuild.specs.Rebuilding.{AddsWeighted, IsRebuilt, column_of, weight_by}

-- the stripe of which each slot is sound and has the block of a filling
sound_stripe : (ℕ → List ℕ) → Stripe
sound_stripe f = record { slots = λ c. Live (digest_of (f c)); held = λ c. Some (f c) }

-- a filling of another stripe is one of it
is_filling : (data_columns parity : ℕ) (s : Stripe) (f : ℕ → List ℕ) → Filling data_columns parity s f → Filling data_columns parity (sound_stripe f) f
unfolding sound_stripe
is_filling data_columns parity s f h = record {
  block = h.block;
  void = λ c lt e. absurd (live_void e);
  digest = λ c d lt e. some_same e;
  held = λ c b lt x. some_same x.held;
  p_sum = h.p_sum;
  q_sum = h.q_sum;
}
  where
    live_void : {d : Digest} → Live d ≡ Void → ⊥
    live_void e = cc

    some_same : {A : Type 0} {a b : A} → Some a ≡ Some b → a ≡ b
    some_same h = cc

-- what a filling has was read of it
is_read : (data_columns parity t u : ℕ) (s : Stripe) (f base : ℕ → List ℕ) → Filling data_columns parity s f
    → ((c : ℕ) → c < data_columns + parity → c ≢ t → c ≢ u → f c ≡ base c) → IsStripeRead data_columns parity (sound_stripe f) t u base
unfolding sound_stripe
is_read data_columns parity t u s f base h same c lt nt nu =
    let e : f c ≡ base c = same c lt nt nu in
    (subst IsBlock e (h.block c lt), inl (record { digest = digest_of (f c); live = refl; held = ap Some e; right = ap digest_of (sym e) }))

pub is_rebuilt : (data_columns parity t u : ℕ) (blocks : List (List ℕ)) (x : List ℕ) → FitsColumns data_columns parity → AreDistinctColumns data_columns parity t u
    → Computed data_columns parity t u (column_of blocks) x → IsRebuilt data_columns parity t u blocks x
is_rebuilt data_columns parity t u blocks x fits apart computed s f h same =
    filling_computed data_columns parity fits.few fits.one fits.small (sound_stripe f) t u (column_of blocks) apart.target apart.other apart.apart apart.single
    (is_read data_columns parity t u s f (column_of blocks) h same) f x (is_filling data_columns parity s f h) computed

-- a block that is folded in
pub added : (data_columns p q c w : ℕ) (before after block : List ℕ) → IsBlock before → IsBlock block → w ≡ weight_by data_columns p q c
    → after ≡ xor before (scaled w block) → AddsWeighted data_columns p q c before after block
added data_columns p q c w before after block hb hk ew e =
    let hs : IsBlock (scaled w block) = IsBlock-scaled w block hk in
    record {
      whole = subst IsBlock (sym e) (IsBlock-xor before (scaled w block) hb hs);
      bytes = λ k. ap (λ z. get_or z k 0) e ∙ get_or-xor before (scaled w block) k (hb.size ∙ sym hs.size)
          ∙ ap (bit_xor (get_or before k 0)) (get_or-scaled w block k ∙ ap (λ w. byte_product w (get_or block k 0)) ew);
    }

-- what the sum has of the first columns
pub record IsSummed (data_columns t u : ℕ) (blocks : List (List ℕ)) (n : ℕ) (sum : List ℕ) : Type 0 where
  pub whole : IsBlock sum
  pub bytes : (k : ℕ)
      → get_or sum k 0
      ≡ total n (λ c. if nat_eq c t then 0 else byte_product (weight data_columns t u c) (get_or (column_of blocks c) k 0))

pub summed_none : (data_columns t u : ℕ) (blocks : List (List ℕ)) (sum : List ℕ) → IsBlock sum → sum ≡ zero_block → IsSummed data_columns t u blocks 0 sum
unfolding total
summed_none data_columns t u blocks sum h e = record { whole = h; bytes = λ k. ap (λ z. get_or z k 0) e ∙ get_or-zero_block k }

pub summed_target : (data_columns t u : ℕ) (blocks : List (List ℕ)) (n : ℕ) (sum : List ℕ) → n ≡ t → IsSummed data_columns t u blocks n sum → IsSummed data_columns t u blocks (suc n) sum
unfolding total
summed_target data_columns t u blocks n sum e h = record {
  whole = h.whole;
  bytes = λ k. h.bytes k ∙ sym (ap (bit_xor (total n (λ c. if nat_eq c t then 0 else byte_product (weight data_columns t u c) (get_or (column_of blocks c) k 0)))) (left_out n t (byte_product (weight data_columns t u n) (get_or (column_of blocks n) k 0)) e) ∙ xor_zero_r _);
}
  where
    left_out : (c t x : ℕ) → c ≡ t → (if nat_eq c t then 0 else x) ≡ 0
    left_out c t x e = grind (arith, nat_tests)

pub summed_more : (data_columns t u : ℕ) (blocks : List (List ℕ)) (n : ℕ) (sum now block : List ℕ) (p q : ℕ) → p ≡ p_times data_columns t u → q ≡ q_times data_columns t u
    → n ≢ t → block ≡ column_of blocks n → AddsWeighted data_columns p q n sum now block
    → IsSummed data_columns t u blocks n sum → IsSummed data_columns t u blocks (suc n) now
unfolding total weight
summed_more data_columns t u blocks n sum now block p q ep eq ne is adds h = record {
  whole = adds.whole;
  bytes = λ k. adds.bytes k
      ∙ ap (λ z. bit_xor z (byte_product (weight_by data_columns p q n) (get_or block k 0))) (h.bytes k)
      ∙ ap (bit_xor (total n (λ c. if nat_eq c t then 0 else byte_product (weight data_columns t u c) (get_or (column_of blocks c) k 0))))
      (ap (λ p. byte_product (weight_by data_columns p q n) (get_or block k 0)) ep ∙ ap (λ q. byte_product (weight_by data_columns (p_times data_columns t u) q n) (get_or block k 0)) eq
      ∙ ap (λ b. byte_product (weight data_columns t u n) (get_or b k 0)) is ∙ sym (left_in n t _ ne));
}
  where
    left_in : (c t x : ℕ) → c ≢ t → (if nat_eq c t then 0 else x) ≡ x
    left_in c t x ne = grind (arith, nat_tests)
