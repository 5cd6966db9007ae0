-- A relay that has passed every column has the target's block.
use Rattle.std.proofs.Common.{◌≡◌, ◌≢◌, ◌⊎◌, ℕ, suc, ◌+◌, ◌<◌, ◌≤◌, bit_xor, refl, sym, ap, ap₂, ◌∙◌, arith, List, Option, Some, None, inl, inr, get_or, nat_eq, nat_le, if◌then◌else◌, Bool, true, false, ◌&&◌, not, lit<}
use Rattle.std.proofs.lemmas.Bool.Decides.{nat_tests}
use Rattle.std.specs.Int.Bits.{xor_zero_l}
use Rattle.std.proofs.lemmas.Bool.{cases_Bool}
use Rattle.pot_bytes.specs.Totals.{total}
use Rattle.pot_bytes.specs.Product.{byte_product}
use Rattle.pot_bytes.proofs.ProductLemmas.{byte_product-xor_left, byte_product-below, byte_product-zero_left, byte_product-zero_right, byte_product-one_left, byte_product-total}
use Rattle.pot_bytes.proofs.TotalLemmas.{total_same, total_xor, total_change, from_zero}
use Rattle.pot_gf.proofs.FieldLemmas.{byte_product-assoc}
use Rattle.pot_machine.specs.declared.slot.SlotState.{SlotState}
use Rattle.pot_machine.specs.declared.slot.SlotState.TheVariants.{Void, Live, Lost, Broken}
use Rattle.pot_machine.specs.declared.relay.Relay.{Relay}
use Rattle.pot_machine.specs.Slot.{is_void}
use Rattle.pot_bytes.specs.Lists.{IsBlock}
use Rattle.pot_steps.specs.Equations.{p_weight, q_weight}
use Rattle.pot_steps.specs.Stripe.{Stripe, Filling}
use Rattle.pot_steps.specs.Flight.{IsRelay, HasNoNext, IsPartial, visits, folded, is_within, weight, left_out, p_times, q_times}
use Rattle.pot_steps.proofs.BlockLemmas.{get_or-zero_block, same_blocks}
use Rattle.pot_steps.proofs.Weights.{q_weight-low, q_weight-p, q_weight-q}
use Rattle.pot_steps.proofs.Relays.{power-below, inverse-below, weight-target, weight-left_out, kinds, p-data_data, p-data_p, p-low_q, p-p, p-q_q, q-p_p, p-q_data, p-q_p, q-data_data, q-data_p, q-low_q, q-p_data, q-q}

below_is : (a b : ℕ) → a ≡ b → b < 256 → a < 256
below_is a b e h = omega arith

pub p_weight-below : (data_columns c : ℕ) → p_weight data_columns c < 256
unfolding p_weight
p_weight-below data_columns c = grind (arith, nat_tests)

pub q_weight-below : (data_columns c : ℕ) → q_weight data_columns c < 256
q_weight-below data_columns c = elim (kinds data_columns c) [
  | inl h ↦ below_is _ _ (q_weight-low data_columns c h) (power-below c)
  | inr (inl h) ↦ below_is _ _ (ap (q_weight data_columns) h ∙ q_weight-p data_columns) (lit< tt)
  | inr (inr h) ↦ below_is _ _ (q_weight-q data_columns c h) (lit< tt)
]

pub q_times-below : (data_columns t u : ℕ) → q_times data_columns t u < 256
q_times-below data_columns t u = elim (kinds data_columns t) [
  | inl ht ↦ elim (kinds data_columns u) [
    | inl hu ↦ below_is _ _ (q-data_data data_columns t u ht hu) (inverse-below _)
    | inr (inl hu) ↦ below_is _ _ (q-data_p data_columns t u ht hu) (inverse-below _)
    | inr (inr hu) ↦ below_is _ _ (q-low_q data_columns t u (omega arith) hu) (lit< tt)
  ]
  | inr (inl ht) ↦ elim (kinds data_columns u) [
    | inl hu ↦ below_is _ _ (q-p_data data_columns t u ht hu) (inverse-below _)
    | inr (inl hu) ↦ below_is _ _ (q-p_p data_columns t u ht hu) (lit< tt)
    | inr (inr hu) ↦ below_is _ _ (q-low_q data_columns t u (omega arith) hu) (lit< tt)
  ]
  | inr (inr ht) ↦ below_is _ _ (q-q data_columns t u ht) (lit< tt)
]

pub p_times-below : (data_columns t u : ℕ) → p_times data_columns t u < 256
p_times-below data_columns t u = elim (kinds data_columns t) [
  | inl ht ↦ elim (kinds data_columns u) [
    | inl hu ↦ below_is _ _ (p-data_data data_columns t u ht hu) (byte_product-below _ _)
    | inr (inl hu) ↦ below_is _ _ (p-data_p data_columns t u ht hu) (lit< tt)
    | inr (inr hu) ↦ below_is _ _ (p-low_q data_columns t u (omega arith) hu) (lit< tt)
  ]
  | inr (inl ht) ↦ below_is _ _ (p-p data_columns t u ht) (lit< tt)
  | inr (inr ht) ↦ elim (kinds data_columns u) [
    | inl hu ↦ below_is _ _ (p-q_data data_columns t u ht hu) (power-below u)
    | inr (inl hu) ↦ below_is _ _ (p-q_p data_columns t u ht hu) (lit< tt)
    | inr (inr hu) ↦ below_is _ _ (p-q_q data_columns t u ht hu) (lit< tt)
  ]
]

-- one term of the sum of both equations
term : (a b p q x : ℕ) → a < 256 → b < 256 → p < 256 → q < 256 → x < 256 → byte_product (bit_xor (byte_product a p) (byte_product b q)) x ≡ bit_xor (byte_product a (byte_product p x)) (byte_product b (byte_product q x))
term a b p q x ha hb hp hq hx = byte_product-xor_left (byte_product a p) (byte_product b q) x ∙ ap₂ bit_xor (byte_product-assoc a p x) (byte_product-assoc b q x)

-- the sum of both equations
pub combined : (data_columns n t u : ℕ) (x : ℕ → ℕ) → ((c : ℕ) → c < n → x c < 256)
    → total n (λ c. byte_product (weight data_columns t u c) (x c)) ≡ bit_xor (byte_product (p_times data_columns t u) (total n (λ c. byte_product (p_weight data_columns c) (x c)))) (byte_product (q_times data_columns t u) (total n (λ c. byte_product (q_weight data_columns c) (x c))))
unfolding weight
combined data_columns n t u x h =
    total_same n _ _ (λ c l. term (p_times data_columns t u) (q_times data_columns t u) (p_weight data_columns c) (q_weight data_columns c) (x c) (p_times-below data_columns t u) (q_times-below data_columns t u) (p_weight-below data_columns c) (q_weight-below data_columns c) (h c l))
    ∙ total_xor n (λ c. byte_product (p_times data_columns t u) (byte_product (p_weight data_columns c) (x c))) (λ c. byte_product (q_times data_columns t u) (byte_product (q_weight data_columns c) (x c)))
    ∙ sym (ap₂ bit_xor (byte_product-total n (p_times data_columns t u) (λ c. byte_product (p_weight data_columns c) (x c))) (byte_product-total n (q_times data_columns t u) (λ c. byte_product (q_weight data_columns c) (x c))))

-- the tests
module _ (data_columns : ℕ) (slots : ℕ → SlotState) (r : Relay) where
  pub not_visited : (c : ℕ) → visits data_columns slots r c ≡ false → (c ≡ r.target) ⊎ ((c ≡ left_out data_columns r.target r.skip) ⊎ (slots c ≡ Void))
  unfolding visits
  not_visited c h = cases c r.target (left_out data_columns r.target r.skip) (slots c) h
    where
      cases : (c t u : ℕ) (x : SlotState) → not (nat_eq c t) && (not (nat_eq c u) && not (is_void x)) ≡ false → (c ≡ t) ⊎ ((c ≡ u) ⊎ (x ≡ Void))
      cases c t u Void h = inr (inr refl)
      cases c t u (Live d) h = grind (arith, nat_tests)
      cases c t u (Lost d) h = grind (arith, nat_tests)
      cases c t u (Broken d) h = grind (arith, nat_tests)

  pub folded_not_void : (c : ℕ) → folded data_columns slots r c ≡ true → slots c ≡ Void → ⊥
  unfolding folded visits
  folded_not_void c h v = cases (not (nat_eq c r.target)) (not (nat_eq c (left_out data_columns r.target r.skip))) (slots c) (is_within r.last c) h v
    where
      cases : (a b : Bool) (x : SlotState) (l : Bool) → (a && (b && not (is_void x))) && l ≡ true → x ≡ Void → ⊥
      cases a b Void l h v = grind (arith, nat_tests)
      cases a b (Live d) l h v = cc
      cases a b (Lost d) l h v = cc
      cases a b (Broken d) l h v = cc

  pub target_not_visited : visits data_columns slots r r.target ≡ false
  unfolding visits
  target_not_visited = test r.target (not (nat_eq r.target (left_out data_columns r.target r.skip)) && not (is_void (slots r.target)))
    where
      test : (t : ℕ) (b : Bool) → not (nat_eq t t) && b ≡ false
      test t b = grind (arith, nat_tests)

pub if_true : (b : Bool) (x y : ℕ) → b ≡ true → (if b then x else y) ≡ x
if_true b x y e = ap (λ z. if z then x else y) e

pub if_false : (b : Bool) (x y : ℕ) → b ≡ false → (if b then x else y) ≡ y
if_false b x y e = ap (λ z. if z then x else y) e

module _ (data_columns : ℕ) (slots : ℕ → SlotState) (r : Relay) (c : ℕ) where
  pub folded_true : visits data_columns slots r c ≡ true → is_within r.last c ≡ true → folded data_columns slots r c ≡ true
  unfolding folded
  folded_true v w = ap₂ (λ x y. x && y) v w

  pub folded_false : visits data_columns slots r c ≡ false → folded data_columns slots r c ≡ false
  unfolding folded
  folded_false v = ap (λ x. x && is_within r.last c) v

  pub folded_within : is_within r.last c ≡ false → folded data_columns slots r c ≡ false
  unfolding folded
  folded_within v = ap (λ x. visits data_columns slots r c && x) v ∙ and_false (visits data_columns slots r c)
    where
      and_false : (b : Bool) → b && false ≡ false
      and_false true = refl
      and_false false = refl

-- what a relay leaves out
left_out-none : (data_columns t : ℕ) → t ≤ suc data_columns → (left_out data_columns t None ≢ t) × (left_out data_columns t None ≤ suc data_columns) × (t ≤ data_columns → data_columns < left_out data_columns t None)
unfolding left_out
left_out-none data_columns t h = facts _ refl
  where
    facts : (u : ℕ) → (if nat_le t data_columns then data_columns + 1 else data_columns) ≡ u → (u ≢ t) × (u ≤ suc data_columns) × (t ≤ data_columns → data_columns < u)
    facts u e = grind (arith, nat_tests)

module _ (data_columns parity : ℕ) (few : parity ≤ 2) (one : 1 ≤ parity) where
  pub left_out-facts : (t : ℕ) (skip : Option ℕ) → t < data_columns + parity → ((u : ℕ) → skip ≡ Some u → (u < data_columns + parity) × (u ≢ t)) → (parity ≡ 1 → skip ≡ None)
      → (left_out data_columns t skip ≢ t) × (left_out data_columns t skip ≤ suc data_columns) × (parity ≡ 1 → data_columns < left_out data_columns t skip)
  unfolding left_out
  left_out-facts t None lt h s =
      let f = left_out-none data_columns t (omega arith) in (f.0, f.1, λ e. f.2 (omega arith))
  left_out-facts t (Some u) lt h s =
      let f : (u < data_columns + parity) × (u ≢ t) = h u refl in (f.1, omega arith, λ e. absurd (not_none (s e)))
    where
      not_none : Some u ≡ None → ⊥
      not_none e = cc

  -- the sum of the terms of a filling is zero
  pub balanced : (s : Stripe) (blocks : ℕ → List ℕ) (t u k : ℕ) → Filling data_columns parity s blocks → t < data_columns + parity → (parity ≡ 1 → data_columns < u)
      → total (data_columns + parity) (λ c. byte_product (weight data_columns t u c) (get_or (blocks c) k 0)) ≡ 0
  balanced s blocks t u k f lt single =
      combined data_columns (data_columns + parity) t u (λ c. get_or (blocks c) k 0) (λ c l. (f.block c l).bytes k)
      ∙ ap₂ bit_xor (ap (byte_product (p_times data_columns t u)) (f.p_sum k) ∙ byte_product-zero_right (p_times data_columns t u))
      (elim (one_or_two parity few one) [
        | inl e ↦ ap (λ z. byte_product z (total (data_columns + parity) (λ c. byte_product (q_weight data_columns c) (get_or (blocks c) k 0)))) (q-low_q data_columns t u (omega arith) (single e)) ∙ byte_product-zero_left _
        | inr e ↦ ap (byte_product (q_times data_columns t u)) (f.q_sum e k) ∙ byte_product-zero_right (q_times data_columns t u)
      ])
    where
      one_or_two : (n : ℕ) → n ≤ 2 → 1 ≤ n → (n ≡ 1) ⊎ (n ≡ 2)
      one_or_two n a b = grind arith

  module _ (small : data_columns ≤ 16) (s : Stripe) (r : Relay) (blocks : ℕ → List ℕ) (partial : List ℕ) (is : IsRelay data_columns parity r) (f : Filling data_columns parity s blocks) (whole : IsBlock partial) (done : HasNoNext data_columns parity s r) (part : IsPartial data_columns parity s r blocks partial) where
    facts : (left_out data_columns r.target r.skip ≢ r.target) × (left_out data_columns r.target r.skip ≤ suc data_columns) × (parity ≡ 1 → data_columns < left_out data_columns r.target r.skip)
    facts = left_out-facts r.target r.skip is.target is.skip is.single

    -- no column but the target is missing in the sum
    missing : (k c : ℕ) → c < data_columns + parity → c ≢ r.target
        → (if folded data_columns s.slots r c then byte_product (weight data_columns r.target (left_out data_columns r.target r.skip) c) (get_or (blocks c) k 0) else 0) ≡ byte_product (weight data_columns r.target (left_out data_columns r.target r.skip) c) (get_or (blocks c) k 0)
    missing k c lt ne = elim (cases_Bool (visits data_columns s.slots r c)) [
      | inl v ↦ if_true _ _ _ (folded_true data_columns s.slots r c v (done c lt v))
      | inr v ↦ if_false _ _ _ (folded_false data_columns s.slots r c v) ∙ sym (nothing v)
    ]
      where
        nothing : visits data_columns s.slots r c ≡ false → byte_product (weight data_columns r.target (left_out data_columns r.target r.skip) c) (get_or (blocks c) k 0) ≡ 0
        nothing v = elim (not_visited data_columns s.slots r c v) [
          | inl e ↦ absurd (ne e)
          | inr (inl e) ↦ ap (λ z. byte_product z (get_or (blocks c) k 0))
              (ap (weight data_columns r.target (left_out data_columns r.target r.skip)) e
              ∙ weight-left_out data_columns r.target (left_out data_columns r.target r.skip) small facts.0 (omega arith) facts.1) ∙ byte_product-zero_left (get_or (blocks c) k 0)
          | inr (inr e) ↦ ap (byte_product (weight data_columns r.target (left_out data_columns r.target r.skip) c)) (ap (λ b. get_or b k 0) (f.void c lt e) ∙ get_or-zero_block k) ∙ byte_product-zero_right _
        ]

    -- the partial is the target's block
    byte : (k : ℕ) → get_or partial k 0 ≡ get_or (blocks r.target) k 0
    byte k =
        let w : ℕ → ℕ = weight data_columns r.target (left_out data_columns r.target r.skip) in
        let all : ℕ → ℕ = λ c. byte_product (w c) (get_or (blocks c) k 0) in
        let passed : ℕ → ℕ = λ c. if folded data_columns s.slots r c then all c else 0 in
        let zero_is : total (data_columns + parity) all ≡ 0 = balanced s blocks r.target (left_out data_columns r.target r.skip) k f is.target facts.2 in
        let here : passed r.target ≡ 0 = if_false _ _ _ (folded_false data_columns s.slots r r.target (target_not_visited data_columns s.slots r)) in
        let target : all r.target ≡ get_or (blocks r.target) k 0 =
        ap (λ z. byte_product z (get_or (blocks r.target) k 0)) (weight-target data_columns r.target (left_out data_columns r.target r.skip) small facts.0 (omega arith) facts.1)
        ∙ byte_product-one_left (get_or (blocks r.target) k 0) ((f.block r.target is.target).bytes k) in
        let change : total (data_columns + parity) all ≡ bit_xor (total (data_columns + parity) passed) (bit_xor (passed r.target) (all r.target)) =
        total_change (data_columns + parity) passed all r.target is.target (λ c lt ne. sym (missing k c lt ne)) in
        part k ∙ from_zero (total (data_columns + parity) passed) (all r.target)
        (ap (bit_xor (total (data_columns + parity) passed)) (sym (ap (λ z. bit_xor z (all r.target)) here ∙ xor_zero_l (all r.target))) ∙ sym change ∙ zero_is) ∙ target

    pub rebuilt : partial ≡ blocks r.target
    rebuilt = same_blocks partial (blocks r.target) whole (f.block r.target is.target) byte
