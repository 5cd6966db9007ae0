-- The weights of a relay: the target has 1, and what is left out has 0.
use Rattle.std.proofs.Common.{◌≡◌, ◌≢◌, ◌⊎◌, ℕ, zero, suc, ◌<◌, ◌≤◌, bit_xor, refl, sym, ap, ap₂, ◌∙◌, arith, inl, inr, nat_eq, nat_lt, true, ◌||◌, not, lit<}
use Rattle.std.proofs.lemmas.Bool.Decides.{nat_tests}
use Rattle.std.specs.Int.Bits.{xor_self, xor_zero_r, xor_zero_l}
use Rattle.std.proofs.lemmas.Nat.{xor_comm}
use Rattle.pot_bytes.specs.Totals.{total}
use Rattle.pot_bytes.specs.Product.{coefficient, polynomial_product, remainder, byte_product}
use Rattle.pot_bytes.proofs.ProductLemmas.{byte_product-xor_right, byte_product-below, byte_product-zero_left, byte_product-zero_right, byte_product-one_left, byte_product-one_right, byte_product-comm}
use Rattle.pot_bytes.proofs.TotalLemmas.{from_zero}
use Rattle.pot_gf.specs.Field.{power, inverse}
use Rattle.pot_gf.proofs.FieldLemmas.{byte_product-inverse}
use Rattle.pot_steps.specs.Equations.{p_weight, q_weight}
use Rattle.pot_steps.specs.Flight.{weight, p_times, q_times}
use Rattle.pot_bytes.proofs.Basis.{every, every_at}
use Rattle.pot_steps.proofs.Weights.{p_weight-low, p_weight-high, q_weight-low, q_weight-p, q_weight-q}
use Rattle.std.proofs.lemmas.Nat.{xor_of_8}

pub power-below : (k : ℕ) → power 3 k < 256
unfolding power
power-below zero = lit< tt
power-below (suc k) = byte_product-below 3 (power 3 k)

-- the powers of 3 up to the 15th are apart, and none is 0
positive : every 16 (λ k. nat_lt 0 (power 3 k)) ≡ true
unfolding every power total coefficient polynomial_product remainder byte_product
positive = refl

apart : every 16 (λ t. every 16 (λ u. nat_eq t u || not (nat_eq (power 3 t) (power 3 u)))) ≡ true
unfolding every power total coefficient polynomial_product remainder byte_product
apart = refl

pub power-positive : (k : ℕ) → k < 16 → 0 < power 3 k
power-positive k h = positive_of _ (every_at 16 (λ k. nat_lt 0 (power 3 k)) k positive h)
  where
    positive_of : (n : ℕ) → nat_lt 0 n ≡ true → 0 < n
    positive_of n h = grind (arith, nat_tests)

pub power-apart : (t u : ℕ) → t < 16 → u < 16 → t ≢ u → power 3 t ≢ power 3 u
power-apart t u ht hu = apart_of t u _ _ (every_at 16 (λ u. nat_eq t u || not (nat_eq (power 3 t) (power 3 u))) u
    (every_at 16 (λ t. every 16 (λ u. nat_eq t u || not (nat_eq (power 3 t) (power 3 u)))) t apart ht) hu)
  where
    apart_of : (t u m n : ℕ) → (nat_eq t u || not (nat_eq m n)) ≡ true → t ≢ u → m ≢ n
    apart_of t u m n h = grind (arith, nat_tests)

pub sum-positive : (t u : ℕ) → t < 16 → u < 16 → t ≢ u → 0 < bit_xor (power 3 t) (power 3 u)
sum-positive t u ht hu ne = from_not _ (λ e. power-apart t u ht hu ne (from_zero _ _ e))
  where
    from_not : (n : ℕ) → n ≢ 0 → 0 < n
    from_not n h = omega arith

pub inverse-below : (a : ℕ) → inverse a < 256
unfolding inverse power
inverse-below a = byte_product-below a (power a 253)

-- the values of the table
module _ (data_columns t u : ℕ) where
  pub q-data_data : t < data_columns → u < data_columns → q_times data_columns t u ≡ inverse (bit_xor (power 3 t) (power 3 u))
  unfolding q_times
  q-data_data ht hu = grind (arith, nat_tests)

  pub p-data_data : t < data_columns → u < data_columns → p_times data_columns t u ≡ byte_product (q_times data_columns t u) (power 3 u)
  unfolding p_times
  p-data_data ht hu = grind (arith, nat_tests)

  pub q-data_p : t < data_columns → u ≡ data_columns → q_times data_columns t u ≡ inverse (power 3 t)
  unfolding q_times
  q-data_p ht hu = grind (arith, nat_tests)

  pub p-data_p : t < data_columns → u ≡ data_columns → p_times data_columns t u ≡ 0
  unfolding p_times
  p-data_p ht hu = grind (arith, nat_tests)

  pub q-low_q : t ≤ data_columns → data_columns < u → q_times data_columns t u ≡ 0
  unfolding q_times
  q-low_q ht hu = grind (arith, nat_tests)

  pub p-low_q : t ≤ data_columns → data_columns < u → p_times data_columns t u ≡ 1
  unfolding p_times
  p-low_q ht hu = grind (arith, nat_tests)

  pub q-p_data : t ≡ data_columns → u < data_columns → q_times data_columns t u ≡ inverse (power 3 u)
  unfolding q_times
  q-p_data ht hu = grind (arith, nat_tests)

  pub p-p_data : t ≡ data_columns → u < data_columns → p_times data_columns t u ≡ 1
  unfolding p_times
  p-p_data ht hu = grind (arith, nat_tests)

  pub q-p_p : t ≡ data_columns → u ≡ data_columns → q_times data_columns t u ≡ 0
  unfolding q_times
  q-p_p ht hu = grind (arith, nat_tests)

  pub p-p : t ≡ data_columns → p_times data_columns t u ≡ 1
  unfolding p_times
  p-p ht = grind (arith, nat_tests)

  pub p-q_q : data_columns < t → data_columns < u → p_times data_columns t u ≡ 0
  unfolding p_times
  p-q_q ht hu = grind (arith, nat_tests)

  pub q-q : data_columns < t → q_times data_columns t u ≡ 1
  unfolding q_times
  q-q ht = grind (arith, nat_tests)

  pub p-q_data : data_columns < t → u < data_columns → p_times data_columns t u ≡ power 3 u
  unfolding p_times
  p-q_data ht hu = grind (arith, nat_tests)

  pub p-q_p : data_columns < t → u ≡ data_columns → p_times data_columns t u ≡ 0
  unfolding p_times
  p-q_p ht hu = grind (arith, nat_tests)

  pub weight_is : (c a b x y : ℕ) → p_times data_columns t u ≡ a → q_times data_columns t u ≡ b → p_weight data_columns c ≡ x → q_weight data_columns c ≡ y → weight data_columns t u c ≡ bit_xor (byte_product a x) (byte_product b y)
  unfolding weight
  weight_is c a b x y pa qb px qy = ap₂ bit_xor (ap₂ byte_product pa px) (ap₂ byte_product qb qy)

one_zero : (b : ℕ) → bit_xor (byte_product 1 1) (byte_product b 0) ≡ 1
one_zero b = ap₂ bit_xor (byte_product-one_left 1 (lit< tt)) (byte_product-zero_right b) ∙ xor_zero_r 1

zero_one : (a : ℕ) → bit_xor (byte_product a 0) (byte_product 1 1) ≡ 1
zero_one a = ap₂ bit_xor (byte_product-zero_right a) (byte_product-one_left 1 (lit< tt)) ∙ xor_zero_l 1

one_none : (y : ℕ) → bit_xor (byte_product 1 1) (byte_product 0 y) ≡ 1
one_none y = ap₂ bit_xor (byte_product-one_left 1 (lit< tt)) (byte_product-zero_left y) ∙ xor_zero_r 1

by_inverse : (a : ℕ) → 0 < a → a < 256 → byte_product (inverse a) a ≡ 1
by_inverse a h k = byte_product-comm (inverse a) a ∙ byte_product-inverse a h k

-- a column is data, P or Q
pub kinds : (data_columns c : ℕ) → (c < data_columns) ⊎ ((c ≡ data_columns) ⊎ (data_columns < c))
kinds data_columns c = grind arith

module _ (data_columns t u : ℕ) (small : data_columns ≤ 16) (ne : u ≢ t) (t_in : t ≤ suc data_columns) (u_in : u ≤ suc data_columns) where
  pub weight-target : weight data_columns t u t ≡ 1
  weight-target = elim (kinds data_columns t) [
    | inl t_data ↦ elim (kinds data_columns u) [
      | inl u_data ↦
          let gt = power 3 t in let gu = power 3 u in let b = inverse (bit_xor gt gu) in
          let below : bit_xor gt gu < 256 = xor_of_8 gt gu (power-below t) (power-below u) in
          weight_is data_columns t u t (byte_product b gu) b 1 gt (p-data_data data_columns t u t_data u_data ∙ ap (λ z. byte_product z gu) (q-data_data data_columns t u t_data u_data)) (q-data_data data_columns t u t_data u_data) (p_weight-low data_columns t (omega arith)) (q_weight-low data_columns t t_data)
          ∙ ap (λ z. bit_xor z (byte_product b gt)) (byte_product-one_right (byte_product b gu) (byte_product-below b gu))
          ∙ xor_comm (byte_product b gu) (byte_product b gt) ∙ sym (byte_product-xor_right b gt gu)
          ∙ by_inverse (bit_xor gt gu) (sum-positive t u (omega arith) (omega arith) (λ e. ne (sym e))) below
      | inr (inl u_p) ↦
          weight_is data_columns t u t 0 (inverse (power 3 t)) 1 (power 3 t) (p-data_p data_columns t u t_data u_p) (q-data_p data_columns t u t_data u_p) (p_weight-low data_columns t (omega arith)) (q_weight-low data_columns t t_data)
          ∙ ap₂ bit_xor (byte_product-zero_left 1) (by_inverse (power 3 t) (power-positive t (omega arith)) (power-below t)) ∙ xor_zero_l 1
      | inr (inr u_q) ↦
          weight_is data_columns t u t 1 0 1 (q_weight data_columns t) (p-low_q data_columns t u (omega arith) u_q) (q-low_q data_columns t u (omega arith) u_q) (p_weight-low data_columns t (omega arith)) refl ∙ one_none (q_weight data_columns t)
    ]
    | inr (inl t_p) ↦ elim (kinds data_columns u) [
      | inl u_data ↦
          weight_is data_columns t u t 1 (inverse (power 3 u)) 1 0 (p-p_data data_columns t u t_p u_data) (q-p_data data_columns t u t_p u_data) (p_weight-low data_columns t (omega arith)) (ap (q_weight data_columns) t_p ∙ q_weight-p data_columns) ∙ one_zero (inverse (power 3 u))
      | inr (inl u_p) ↦ absurd (omega arith)
      | inr (inr u_q) ↦
          weight_is data_columns t u t 1 0 1 (q_weight data_columns t) (p-low_q data_columns t u (omega arith) u_q) (q-low_q data_columns t u (omega arith) u_q) (p_weight-low data_columns t (omega arith)) refl ∙ one_none (q_weight data_columns t)
    ]
    | inr (inr t_q) ↦
        weight_is data_columns t u t (p_times data_columns t u) 1 0 1 refl (q-q data_columns t u t_q) (p_weight-high data_columns t t_q) (q_weight-q data_columns t t_q) ∙ zero_one (p_times data_columns t u)
  ]

  pub weight-left_out : weight data_columns t u u ≡ 0
  weight-left_out = elim (kinds data_columns t) [
    | inl t_data ↦ elim (kinds data_columns u) [
      | inl u_data ↦
          let gt = power 3 t in let gu = power 3 u in let b = inverse (bit_xor gt gu) in
          let below : bit_xor gt gu < 256 = xor_of_8 gt gu (power-below t) (power-below u) in
          weight_is data_columns t u u (byte_product b gu) b 1 gu (p-data_data data_columns t u t_data u_data ∙ ap (λ z. byte_product z gu) (q-data_data data_columns t u t_data u_data)) (q-data_data data_columns t u t_data u_data) (p_weight-low data_columns u (omega arith)) (q_weight-low data_columns u u_data)
          ∙ ap (λ z. bit_xor z (byte_product b gu)) (byte_product-one_right (byte_product b gu) (byte_product-below b gu)) ∙ xor_self (byte_product b gu)
      | inr (inl u_p) ↦
          weight_is data_columns t u u 0 (inverse (power 3 t)) 1 0 (p-data_p data_columns t u t_data u_p) (q-data_p data_columns t u t_data u_p) (p_weight-low data_columns u (omega arith)) (ap (q_weight data_columns) u_p ∙ q_weight-p data_columns)
          ∙ ap₂ bit_xor (byte_product-zero_left 1) (byte_product-zero_right (inverse (power 3 t)))
      | inr (inr u_q) ↦
          weight_is data_columns t u u 1 0 0 1 (p-low_q data_columns t u (omega arith) u_q) (q-low_q data_columns t u (omega arith) u_q) (p_weight-high data_columns u u_q) (q_weight-q data_columns u u_q) ∙ ap₂ bit_xor (byte_product-zero_right 1) (byte_product-zero_left 1)
    ]
    | inr (inl t_p) ↦ elim (kinds data_columns u) [
      | inl u_data ↦
          weight_is data_columns t u u 1 (inverse (power 3 u)) 1 (power 3 u) (p-p_data data_columns t u t_p u_data) (q-p_data data_columns t u t_p u_data) (p_weight-low data_columns u (omega arith)) (q_weight-low data_columns u u_data)
          ∙ ap₂ bit_xor (byte_product-one_left 1 (lit< tt)) (by_inverse (power 3 u) (power-positive u (omega arith)) (power-below u)) ∙ xor_self 1
      | inr (inl u_p) ↦ absurd (omega arith)
      | inr (inr u_q) ↦
          weight_is data_columns t u u 1 0 0 1 (p-low_q data_columns t u (omega arith) u_q) (q-low_q data_columns t u (omega arith) u_q) (p_weight-high data_columns u u_q) (q_weight-q data_columns u u_q) ∙ ap₂ bit_xor (byte_product-zero_right 1) (byte_product-zero_left 1)
    ]
    | inr (inr t_q) ↦ elim (kinds data_columns u) [
      | inl u_data ↦
          weight_is data_columns t u u (power 3 u) 1 1 (power 3 u) (p-q_data data_columns t u t_q u_data) (q-q data_columns t u t_q) (p_weight-low data_columns u (omega arith)) (q_weight-low data_columns u u_data)
          ∙ ap₂ bit_xor (byte_product-one_right (power 3 u) (power-below u)) (byte_product-one_left (power 3 u) (power-below u)) ∙ xor_self (power 3 u)
      | inr (inl u_p) ↦
          weight_is data_columns t u u 0 1 1 0 (p-q_p data_columns t u t_q u_p) (q-q data_columns t u t_q) (p_weight-low data_columns u (omega arith)) (ap (q_weight data_columns) u_p ∙ q_weight-p data_columns)
          ∙ ap₂ bit_xor (byte_product-zero_left 1) (byte_product-zero_right 1)
      | inr (inr u_q) ↦ absurd (omega arith)
    ]
  ]
