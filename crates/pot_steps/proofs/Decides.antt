-- A stripe of which all but two slots were read has a filling exactly where the two computed blocks
-- serve.
use Rattle.std.proofs.Common.{◌≡◌, ◌≢◌, ◌⊎◌, ℕ, suc, ◌+◌, ◌<◌, ◌≤◌, bit_xor, sym, ap, ap₂, ◌∙◌, arith, List, Some, None, inl, inr, subst, get_or, nat_eq, if◌then◌else◌}
use Rattle.std.proofs.lemmas.Bool.Decides.{nat_tests}
use Rattle.std.specs.Int.Bits.{xor_zero_r, xor_zero_l}
use Rattle.std.proofs.lemmas.Bool.{cases_eq}
use Rattle.pot_bytes.specs.declared.digest.Digest.{Digest}
use Rattle.pot_bytes.specs.Totals.{total}
use Rattle.pot_bytes.specs.Product.{byte_product}
use Rattle.pot_bytes.specs.Sums.{zero_block}
use Rattle.pot_bytes.proofs.ProductLemmas.{byte_product-below, byte_product-zero_left, byte_product-one_left}
use Rattle.pot_bytes.proofs.TotalLemmas.{total_change, from_zero}
use Rattle.pot_machine.specs.declared.slot.SlotState.TheVariants.{Void, Live}
use Rattle.pot_machine.specs.Slot.{digest_in}
use Rattle.pot_bytes.specs.Lists.{IsBlock}
use Rattle.pot_steps.specs.Equations.{p_weight, q_weight}
use Rattle.pot_bytes.specs.Digests.{digest_of}
use Rattle.pot_steps.specs.Stripe.{Stripe, IsSound, Filling}
use Rattle.pot_steps.specs.Law.{IsRead}
use Rattle.pot_steps.specs.Flight.{weight, p_times, q_times}
use Rattle.pot_steps.specs.Decides.{Computed, IsStripeRead, StandsForSlot}
use Rattle.pot_steps.proofs.BlockLemmas.{same_blocks}
use Rattle.pot_steps.proofs.Relays.{weight-target, weight-left_out, p-low_q, q-low_q}
use Rattle.pot_steps.proofs.Rebuilt.{combined, balanced, p_weight-below, q_weight-below}
use Rattle.pot_steps.proofs.Solved.{solved, whole_sum, total-below}

pub left_in : (c t x : ℕ) → c ≢ t → (if nat_eq c t then 0 else x) ≡ x
left_in c t x ne = grind (arith, nat_tests)

pub left_out_of : (t x : ℕ) → (if nat_eq t t then 0 else x) ≡ 0
left_out_of t x = grind (arith, nat_tests)

-- a block that was read serves
pub read_serves : (s : Stripe) (c : ℕ) (b : List ℕ) → IsRead s c b → StandsForSlot s c b
read_serves s c b (inl x) = record {
  void = λ e. absurd (live_void (sym x.live ∙ e));
  digest = λ d e. x.right ∙ some_same (sym (ap digest_in x.live) ∙ e);
  held = λ y h. some_same (sym x.held ∙ h.held);
}
  where
    live_void : {d : Digest} → Live d ≡ Void → ⊥
    live_void e = cc

    some_same : {A : Type 0} {a b : A} → Some a ≡ Some b → a ≡ b
    some_same h = cc
read_serves s c b (inr v) = record {
  void = λ e. v.1;
  digest = λ d e. absurd (no_some (sym (ap digest_in v.0) ∙ e));
  held = λ y h. absurd (live_void (sym h.live ∙ v.0));
}
  where
    live_void : {d : Digest} → Live d ≡ Void → ⊥
    live_void e = cc

    no_some : {d : Digest} → None ≡ Some d → ⊥
    no_some e = cc

module _ (data_columns parity : ℕ) (few : parity ≤ 2) (one : 1 ≤ parity) (small : data_columns ≤ 16) (s : Stripe) (t u : ℕ) (base : ℕ → List ℕ)
    (t_in : t < data_columns + parity) (u_in : u ≤ suc data_columns) (ne : u ≢ t) (single : parity ≡ 1 → data_columns < u) (read : IsStripeRead data_columns parity s t u base) where
  t_le : t ≤ suc data_columns
  t_le = omega arith

  -- a filling has what was read
  pub filling_read : (f : ℕ → List ℕ) → Filling data_columns parity s f → (c : ℕ) → c < data_columns + parity → c ≢ t → c ≢ u → f c ≡ base c
  filling_read f h c lt nt nu = elim (read c lt nt nu).1 [ inl x ↦ h.held c (base c) lt x | inr v ↦ h.void c lt v.0 ∙ sym v.1 ]

  -- and the computed block
  pub filling_computed : (f : ℕ → List ℕ) (x : List ℕ) → Filling data_columns parity s f → Computed data_columns parity t u base x → x ≡ f t
  filling_computed f x h y = same_blocks x (f t) y.block (h.block t t_in) (λ k.
      let n : ℕ = data_columns + parity in
      let all : ℕ → ℕ = λ c. byte_product (weight data_columns t u c) (get_or (f c) k 0) in
      let rest : ℕ → ℕ = λ c. if nat_eq c t then 0 else byte_product (weight data_columns t u c) (get_or (base c) k 0) in
      let others : (c : ℕ) → c < n → c ≢ t → all c ≡ rest c = (λ c lt nt. elim (cases_eq c u) [
        | inl e ↦ subst (λ c. all c ≡ rest c) (sym e) (
            ap (λ w. byte_product w (get_or (f u) k 0)) (weight-left_out data_columns t u small ne t_le u_in) ∙ byte_product-zero_left (get_or (f u) k 0)
            ∙ sym (left_in u t _ ne ∙ ap (λ w. byte_product w (get_or (base u) k 0)) (weight-left_out data_columns t u small ne t_le u_in) ∙ byte_product-zero_left (get_or (base u) k 0)))
        | inr nu ↦ ap (λ b. byte_product (weight data_columns t u c) (get_or b k 0)) (filling_read f h c lt nt nu) ∙ sym (left_in c t _ nt)
      ]) in
      let here : all t ≡ get_or (f t) k 0 = ap (λ w. byte_product w (get_or (f t) k 0)) (weight-target data_columns t u small ne t_le u_in) ∙ byte_product-one_left (get_or (f t) k 0) ((h.block t t_in).bytes k) in
      y.bytes k ∙ from_zero (total n rest) (get_or (f t) k 0)
      (ap (bit_xor (total n rest)) (sym (ap₂ bit_xor (left_out_of t (byte_product (weight data_columns t u t) (get_or (base t) k 0))) here ∙ xor_zero_l (get_or (f t) k 0)))
      ∙ sym (total_change n rest all t t_in others) ∙ balanced data_columns parity few one s f t u k h t_in single))

  -- the other way round
  module _ (x y : List ℕ) (cx : Computed data_columns parity t u base x) (cy : parity ≡ 2 → Computed data_columns parity u t base y) (sx : StandsForSlot s t x) (sy : parity ≡ 2 → StandsForSlot s u y) where
    pub made : ℕ → List ℕ
    made c = if nat_eq c t then x else if nat_eq c u then y else base c

    made_t : made t ≡ x
    unfolding made
    made_t = at t x (if nat_eq t u then y else base t)
      where
        at : (t : ℕ) (x y : List ℕ) → (if nat_eq t t then x else y) ≡ x
        at t x y = grind (arith, nat_tests)

    made_u : made u ≡ y
    unfolding made
    made_u = at u t x y (base u) ne
      where
        at : (u t : ℕ) (x y z : List ℕ) → u ≢ t → (if nat_eq u t then x else if nat_eq u u then y else z) ≡ y
        at u t x y z ne = grind (arith, nat_tests)

    made_other : (c : ℕ) → c ≢ t → c ≢ u → made c ≡ base c
    unfolding made
    made_other c nt nu = at c t u x y (base c) nt nu
      where
        at : (c t u : ℕ) (x y z : List ℕ) → c ≢ t → c ≢ u → (if nat_eq c t then x else if nat_eq c u then y else z) ≡ z
        at c t u x y z nt nu = grind (arith, nat_tests)

    each : (P : ℕ → List ℕ → Type 0) → P t x → (parity ≡ 2 → P u y) → ((c : ℕ) → c < data_columns + parity → c ≢ t → c ≢ u → P c (base c)) → (c : ℕ) → c < data_columns + parity → P c (made c)
    each P at_t at_u others c lt = elim (cases_eq c t) [
      | inl e ↦ subst (λ c. P c (made c)) (sym e) (subst (P t) (sym made_t) at_t)
      | inr nt ↦ elim (cases_eq c u) [
        | inl e ↦ subst (λ c. P c (made c)) (sym e) (subst (P u) (sym made_u) (at_u (two parity few one (λ h. (let g : data_columns < u = single h in absurd (omega arith))))))
        | inr nu ↦ subst (P c) (sym (made_other c nt nu)) (others c lt nt nu)
      ]
    ]
      where
        two : (n : ℕ) → n ≤ 2 → 1 ≤ n → (n ≡ 1 → ⊥) → n ≡ 2
        two n a b h = grind arith

    made_block : (c : ℕ) → c < data_columns + parity → IsBlock (made c)
    made_block = each (λ c b. IsBlock b) cx.block (λ e. (cy e).block) (λ c lt nt nu. (read c lt nt nu).0)

    sum_t : (k : ℕ) → total (data_columns + parity) (λ c. byte_product (weight data_columns t u c) (get_or (made c) k 0)) ≡ 0
    sum_t k = whole_sum (data_columns + parity) (weight data_columns t u) (λ c. get_or (made c) k 0) t t_in (weight-target data_columns t u small ne t_le u_in) ((made_block t t_in).bytes k)
        (λ c. if nat_eq c t then 0 else byte_product (weight data_columns t u c) (get_or (base c) k 0)) (left_out_of t _)
        (λ c lt nt. left_in c t _ nt ∙ elim (cases_eq c u) [
          | inl e ↦ subst (λ c. byte_product (weight data_columns t u c) (get_or (base c) k 0) ≡ byte_product (weight data_columns t u c) (get_or (made c) k 0)) (sym e)
              (ap (λ w. byte_product w (get_or (base u) k 0)) (weight-left_out data_columns t u small ne t_le u_in) ∙ byte_product-zero_left (get_or (base u) k 0)
              ∙ sym (ap (λ w. byte_product w (get_or (made u) k 0)) (weight-left_out data_columns t u small ne t_le u_in) ∙ byte_product-zero_left (get_or (made u) k 0)))
          | inr nu ↦ ap (λ b. byte_product (weight data_columns t u c) (get_or b k 0)) (sym (made_other c nt nu))
        ])
        (ap (λ b. get_or b k 0) made_t ∙ cx.bytes k)

    sum_u : parity ≡ 2 → (k : ℕ) → total (data_columns + parity) (λ c. byte_product (weight data_columns u t c) (get_or (made c) k 0)) ≡ 0
    sum_u e k =
        let u_lt : u < data_columns + parity = omega arith in
        let back : t ≢ u = (λ h. ne (sym h)) in
        whole_sum (data_columns + parity) (weight data_columns u t) (λ c. get_or (made c) k 0) u u_lt (weight-target data_columns u t small back u_in t_le) ((made_block u u_lt).bytes k)
        (λ c. if nat_eq c u then 0 else byte_product (weight data_columns u t c) (get_or (base c) k 0)) (left_out_of u _)
        (λ c lt nu. left_in c u _ nu ∙ elim (cases_eq c t) [
          | inl h ↦ subst (λ c. byte_product (weight data_columns u t c) (get_or (base c) k 0) ≡ byte_product (weight data_columns u t c) (get_or (made c) k 0)) (sym h)
              (ap (λ w. byte_product w (get_or (base t) k 0)) (weight-left_out data_columns u t small back u_in t_le) ∙ byte_product-zero_left (get_or (base t) k 0)
              ∙ sym (ap (λ w. byte_product w (get_or (made t) k 0)) (weight-left_out data_columns u t small back u_in t_le) ∙ byte_product-zero_left (get_or (made t) k 0)))
          | inr nt ↦ ap (λ b. byte_product (weight data_columns u t c) (get_or b k 0)) (sym (made_other c nt nu))
        ])
        (ap (λ b. get_or b k 0) made_u ∙ (cy e).bytes k)

    both : parity ≡ 2 → (k : ℕ) → (total (data_columns + parity) (λ c. byte_product (p_weight data_columns c) (get_or (made c) k 0)) ≡ 0) × (total (data_columns + parity) (λ c. byte_product (q_weight data_columns c) (get_or (made c) k 0)) ≡ 0)
    both e k = solved data_columns (data_columns + parity) t u (λ c. get_or (made c) k 0) small t_le u_in (λ h. ne (sym h)) (λ c lt. (made_block c lt).bytes k) (p_weight-below data_columns) (q_weight-below data_columns) (sum_t k) (sum_u e k)

    p_alone : parity ≡ 1 → (k : ℕ) → total (data_columns + parity) (λ c. byte_product (p_weight data_columns c) (get_or (made c) k 0)) ≡ 0
    p_alone e k =
        let n : ℕ = data_columns + parity in
        let p : ℕ = total n (λ c. byte_product (p_weight data_columns c) (get_or (made c) k 0)) in
        let q : ℕ = total n (λ c. byte_product (q_weight data_columns c) (get_or (made c) k 0)) in
        let high : data_columns < u = single e in
        let low : t ≤ data_columns = omega arith in
        let both : bit_xor (byte_product (p_times data_columns t u) p) (byte_product (q_times data_columns t u) q) ≡ 0 = sym (combined data_columns n t u (λ c. get_or (made c) k 0) (λ c lt. (made_block c lt).bytes k)) ∙ sum_t k in
        let p_is : byte_product 1 p ≡ 0 = sym (ap₂ bit_xor (ap (λ z. byte_product z p) (p-low_q data_columns t u low high)) (ap (λ z. byte_product z q) (q-low_q data_columns t u low high) ∙ byte_product-zero_left q) ∙ xor_zero_r (byte_product 1 p)) ∙ both in
        sym (byte_product-one_left p (total-below n _ (λ c lt. byte_product-below (p_weight data_columns c) (get_or (made c) k 0)))) ∙ p_is

    pub made_filling : Filling data_columns parity s made
    made_filling = record {
      block = made_block;
      void = each (λ c b. s.slots c ≡ Void → b ≡ zero_block) sx.void (λ e. (sy e).void) (λ c lt nt nu. (read_serves s c (base c) (read c lt nt nu).1).void);
      digest = λ c d lt. each (λ c b. digest_in (s.slots c) ≡ Some d → digest_of b ≡ d) (sx.digest d) (λ e. (sy e).digest d) (λ c lt nt nu. (read_serves s c (base c) (read c lt nt nu).1).digest d) c lt;
      held = λ c b lt. each (λ c x. IsSound s c b → x ≡ b) (sx.held b) (λ e. (sy e).held b) (λ c lt nt nu. (read_serves s c (base c) (read c lt nt nu).1).held b) c lt;
      p_sum = λ k. elim (one_or_two parity few one) [ inl e ↦ p_alone e k | inr e ↦ (both e k).0 ];
      q_sum = λ e k. (both e k).1;
    }
      where
        one_or_two : (n : ℕ) → n ≤ 2 → 1 ≤ n → (n ≡ 1) ⊎ (n ≡ 2)
        one_or_two n a b = grind arith
