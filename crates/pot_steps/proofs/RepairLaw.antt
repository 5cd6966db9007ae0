-- A relay that ends well keeps the stripe filled.
use Rattle.std.proofs.Common.{◌≡◌, ◌≢◌, ◌⊎◌, ℕ, suc, ◌+◌, ◌<◌, ◌≤◌, bit_xor, refl, sym, ap, ap₂, ◌∙◌, arith, List, Some, None, inl, inr, subst, get_or, nat_eq, if◌then◌else◌, Bool, true, false, lit<}
use Rattle.std.proofs.lemmas.Bool.Decides.{nat_tests}
use Rattle.std.specs.Int.Bits.{xor_self, xor_zero_r, xor_zero_l}
use Rattle.std.proofs.lemmas.Bool.{cases_eq, cases_Bool}
use Rattle.std.proofs.lemmas.Option.{same_Some}
use Rattle.pot_bytes.specs.declared.digest.Digest.{Digest}
use Rattle.pot_bytes.specs.Totals.{total}
use Rattle.pot_bytes.specs.Product.{byte_product}
use Rattle.pot_bytes.specs.Sums.{zero_block}
use Rattle.pot_bytes.proofs.ProductLemmas.{byte_product-zero_left, byte_product-zero_right, byte_product-one_left}
use Rattle.pot_bytes.proofs.TotalLemmas.{total_change}
use Rattle.pot_machine.specs.declared.slot.SlotState.{SlotState}
use Rattle.pot_machine.specs.declared.slot.SlotState.TheVariants.{Void, Live, Lost, Broken}
use Rattle.pot_machine.specs.declared.relay.Relay.{Relay}
use Rattle.pot_machine.specs.Slot.{digest_in}
use Rattle.pot_bytes.specs.Lists.{IsBlock}
use Rattle.pot_steps.specs.Equations.{p_weight, q_weight}
use Rattle.pot_bytes.specs.Digests.{digest_of}
use Rattle.pot_steps.specs.Stripe.{Stripe, IsSound, Filling, NoneBroken}
use Rattle.pot_steps.specs.Law.{StripeLaw, Repairs}
use Rattle.pot_steps.specs.Flight.{IsRelay, HasNoNext, IsPartial, FlightLaw, visits, folded, weight, left_out}
use Rattle.pot_steps.proofs.BlockLemmas.{get_or-zero_block, IsBlock-zero_block}
use Rattle.pot_steps.proofs.Weights.{p_weight-low}
use Rattle.pot_steps.proofs.Relays.{weight_is, p-low_q, q-low_q}
use Rattle.pot_steps.proofs.Rebuilt.{if_true, if_false, folded_true, folded_false, rebuilt, not_visited, folded_not_void, target_not_visited, left_out-facts}
use Rattle.pot_steps.proofs.Steps.{filling_stays, no_digest}

module _ (data_columns parity : ℕ) (few : parity ≤ 2) (one : 1 ≤ parity) (small : data_columns ≤ 16) (s s' : Stripe) (r : Relay) (partial : List ℕ)
    (is : IsRelay data_columns parity r) (done : HasNoNext data_columns parity s r) (repairs : Repairs data_columns parity s s' r.target partial) where
  -- the slots keep their digests
  digests : (c : ℕ) → c < data_columns + parity → digest_in (s'.slots c) ≡ digest_in (s.slots c)
  digests c lt = elim (cases_eq c r.target) [
    | inl e ↦ ap (λ c. digest_in (s'.slots c)) e ∙ ap digest_in repairs.after ∙ sym (ap (λ c. digest_in (s.slots c)) e ∙ repairs.digest)
    | inr ne ↦ ap digest_in (repairs.other_slots c lt ne)
  ]

  other_sound : (c : ℕ) (b : List ℕ) → c < data_columns + parity → c ≢ r.target → IsSound s' c b → IsSound s c b
  other_sound c b lt ne h = record { digest = h.digest; live = sym (repairs.other_slots c lt ne) ∙ h.live; held = sym (repairs.other_held c lt ne) ∙ h.held; right = h.right }

  -- the target was not Broken: the filling stays
  from_filling : FlightLaw data_columns parity s r partial → NoneBroken data_columns parity s → (blocks : ℕ → List ℕ) × Filling data_columns parity s' blocks
  from_filling law none =
      let f : (blocks : ℕ → List ℕ) × Filling data_columns parity s blocks × IsPartial data_columns parity s r blocks partial = law.filled none in
      let e : partial ≡ f.0 r.target = rebuilt data_columns parity few one small s r f.0 partial is f.1 law.is_block done f.2 in (
        f.0,
        filling_stays data_columns parity s s' f.0 f.1 digests (λ c b lt h. elim (cases_eq c r.target) [
          | inl eq ↦ ap f.0 eq ∙ sym e ∙ same_Some _ _ (sym repairs.written ∙ sym (ap s'.held eq) ∙ h.held)
          | inr ne ↦ f.1.held c b lt (other_sound c b lt ne h)
        ]),
      )

  -- the target was Broken, and there is one parity column: the folded blocks and the partial are a
  -- filling
  module _ (single : parity ≡ 1) (law : FlightLaw data_columns parity s r partial) where
    fresh : ℕ → List ℕ
    fresh k = if nat_eq k r.target then partial else if folded data_columns s.slots r k then law.some.0 k else zero_block

    fresh_target : fresh r.target ≡ partial
    unfolding fresh
    fresh_target = at r.target partial (if folded data_columns s.slots r r.target then law.some.0 r.target else zero_block)
      where
        at : (t : ℕ) (b d : List ℕ) → (if nat_eq t t then b else d) ≡ b
        at t b d = grind (arith, nat_tests)

    fresh_folded : (k : ℕ) → k ≢ r.target → folded data_columns s.slots r k ≡ true → fresh k ≡ law.some.0 k
    unfolding fresh
    fresh_folded k ne e = at k r.target partial (law.some.0 k) zero_block (folded data_columns s.slots r k) ne e
      where
        at : (k t : ℕ) (a b d : List ℕ) (f : Bool) → k ≢ t → f ≡ true → (if nat_eq k t then a else if f then b else d) ≡ b
        at k t a b d f ne e = grind (arith, nat_tests)

    fresh_void : (k : ℕ) → k ≢ r.target → folded data_columns s.slots r k ≡ false → fresh k ≡ zero_block
    unfolding fresh
    fresh_void k ne e = at k r.target partial (law.some.0 k) zero_block (folded data_columns s.slots r k) ne e
      where
        at : (k t : ℕ) (a b d : List ℕ) (f : Bool) → k ≢ t → f ≡ false → (if nat_eq k t then a else if f then b else d) ≡ d
        at k t a b d f ne e = grind (arith, nat_tests)

    facts : (left_out data_columns r.target r.skip ≢ r.target) × (left_out data_columns r.target r.skip ≤ suc data_columns) × (parity ≡ 1 → data_columns < left_out data_columns r.target r.skip)
    facts = left_out-facts data_columns parity few one r.target r.skip is.target is.skip is.single

    -- every column but the target is folded, or Void
    kind : (k : ℕ) → k < data_columns + parity → k ≢ r.target → (folded data_columns s.slots r k ≡ true) ⊎ ((folded data_columns s.slots r k ≡ false) × (s.slots k ≡ Void))
    kind k lt ne = elim (cases_Bool (visits data_columns s.slots r k)) [
      | inl v ↦ inl (folded_true data_columns s.slots r k v (done k lt v))
      | inr v ↦ inr (
        folded_false data_columns s.slots r k v,
        elim (not_visited data_columns s.slots r k v) [
          | inl e ↦ absurd (ne e)
          | inr (inl e) ↦ (let h : data_columns < left_out data_columns r.target r.skip = facts.2 single in absurd (omega arith))
          | inr (inr e) ↦ e
        ],
      )
    ]

    -- by column
    each : (P : ℕ → List ℕ → Type 0) → P r.target partial → ((k : ℕ) → k < data_columns + parity → k ≢ r.target → folded data_columns s.slots r k ≡ true → P k (law.some.0 k)) → ((k : ℕ) → k < data_columns + parity → k ≢ r.target → s.slots k ≡ Void → P k zero_block) → (k : ℕ) → k < data_columns + parity → P k (fresh k)
    each P here there void k lt = elim (cases_eq k r.target) [
      | inl e ↦ subst (λ k. P k (fresh k)) (sym e) (subst (P r.target) (sym fresh_target) here)
      | inr ne ↦ elim (kind k lt ne) [
        | inl f ↦ subst (P k) (sym (fresh_folded k ne f)) (there k lt ne f)
        | inr v ↦ subst (P k) (sym (fresh_void k ne v.0)) (void k lt ne v.1)
      ]
    ]

    weight_one : (c : ℕ) → c ≤ data_columns → weight data_columns r.target (left_out data_columns r.target r.skip) c ≡ 1
    weight_one c le =
        let u : ℕ = left_out data_columns r.target r.skip in
        let high : data_columns < u = facts.2 single in
        let low : r.target ≤ data_columns = (let t : r.target < data_columns + parity = is.target in omega arith) in
        weight_is data_columns r.target u c 1 0 1 (q_weight data_columns c) (p-low_q data_columns r.target u low high) (q-low_q data_columns r.target u low high) (p_weight-low data_columns c le) refl
        ∙ ap₂ bit_xor (byte_product-one_left 1 (lit< tt)) (byte_product-zero_left (q_weight data_columns c)) ∙ xor_zero_r 1

    fresh_sum : (k : ℕ) → total (data_columns + parity) (λ c. byte_product (p_weight data_columns c) (get_or (fresh c) k 0)) ≡ 0
    fresh_sum k =
        let n : ℕ = data_columns + parity in
        let t : ℕ = r.target in
        let f : ℕ → ℕ = λ c. if folded data_columns s.slots r c then byte_product (weight data_columns t (left_out data_columns t r.skip) c) (get_or (law.some.0 c) k 0) else 0 in
        let g : ℕ → ℕ = λ c. byte_product (p_weight data_columns c) (get_or (fresh c) k 0) in
        let low : (c : ℕ) → c < n → c ≤ data_columns = (λ c lt. omega arith) in
        let change : total n g ≡ bit_xor (total n f) (bit_xor (f t) (g t)) = total_change n f g t is.target (λ c lt ne. elim (kind c lt ne) [
          | inl e ↦ ap₂ byte_product (p_weight-low data_columns c (low c lt) ∙ sym (weight_one c (low c lt))) (ap (λ b. get_or b k 0) (fresh_folded c ne e)) ∙ sym (if_true _ _ _ e)
          | inr v ↦ ap (byte_product (p_weight data_columns c)) (ap (λ b. get_or b k 0) (fresh_void c ne v.0) ∙ get_or-zero_block k) ∙ byte_product-zero_right (p_weight data_columns c) ∙ sym (if_false _ _ _ v.0)
        ]) in
        let before : f t ≡ 0 = if_false _ _ _ (folded_false data_columns s.slots r t (target_not_visited data_columns s.slots r)) in
        let after : g t ≡ get_or partial k 0 = ap₂ byte_product (p_weight-low data_columns t (low t is.target)) (ap (λ b. get_or b k 0) fresh_target) ∙ byte_product-one_left (get_or partial k 0) (law.is_block.bytes k) in
        change ∙ ap₂ bit_xor (sym (law.some.2 k)) (ap₂ bit_xor before after ∙ xor_zero_l (get_or partial k 0)) ∙ xor_self (get_or partial k 0)

    from_broken : Filling data_columns parity s' fresh
    from_broken = record {
      block = each (λ k b. IsBlock b) law.is_block (λ k lt ne f. law.some.1.block k lt f) (λ k lt ne v. IsBlock-zero_block);
      void = each (λ k b. s'.slots k ≡ Void → b ≡ zero_block) (λ e. absurd (live_void (sym repairs.after ∙ e))) (λ k lt ne f e. absurd (folded_not_void data_columns s.slots r k f (no_digest (s.slots k) (sym (digests k lt) ∙ ap digest_in e)))) (λ k lt ne v e. refl);
      digest = λ k d lt. each (λ k b. digest_in (s'.slots k) ≡ Some d → digest_of b ≡ d) (λ e. same_Some _ _ (sym (ap digest_in repairs.after) ∙ e))
          (λ k lt ne f e. law.some.1.digest k d lt f (sym (digests k lt) ∙ e)) (λ k lt ne v e. absurd (no_some (sym (ap digest_in v) ∙ sym (digests k lt) ∙ e))) k lt;
      held = λ k x lt. each (λ k b. IsSound s' k x → b ≡ x) (λ h. same_Some _ _ (sym repairs.written ∙ h.held))
          (λ k lt ne f h. law.some.1.held k x lt f (other_sound k x lt ne h)) (λ k lt ne v h. absurd (live_void (sym h.live ∙ repairs.other_slots k lt ne ∙ v))) k lt;
      p_sum = fresh_sum;
      q_sum = λ e. absurd (omega arith);
    }
      where
        live_void : {d : Digest} → Live d ≡ Void → ⊥
        live_void e = cc

        no_some : {d : Digest} → None ≡ Some d → ⊥
        no_some e = cc

  was_broken : (x : SlotState) → ((d : Digest) → x ≢ Broken d) ⊎ ((d : Digest) × (x ≡ Broken d))
  was_broken Void = inl (λ d e. cc)
  was_broken (Live x) = inl (λ d e. cc)
  was_broken (Lost x) = inl (λ d e. cc)
  was_broken (Broken x) = inr (x, refl)

  -- a stripe whose target was repaired keeps the law: with two parity columns no slot of it was
  -- Broken
  pub mended_keeps : FlightLaw data_columns parity s r partial → (parity ≡ 2 → NoneBroken data_columns parity s) → StripeLaw data_columns parity s' None
  mended_keeps law never none few' = elim (was_broken (s.slots r.target)) [
    | inl fine ↦ from_filling law (λ c d lt e. elim (cases_eq c r.target) [
      | inl eq ↦ fine d (sym (ap s.slots eq) ∙ e)
      | inr ne ↦ none c d lt (repairs.other_slots c lt ne ∙ e)
    ])
    | inr b ↦ elim (one_or_two parity few one) [
      | inl e ↦ (fresh e law, from_broken e law)
      | inr e ↦ absurd (never e r.target b.0 is.target b.1)
    ]
  ]
    where
      one_or_two : (n : ℕ) → n ≤ 2 → 1 ≤ n → (n ≡ 1) ⊎ (n ≡ 2)
      one_or_two n a b = grind arith
