-- A column that a relay visits has a weight that is not 0.
use Rattle.std.proofs.Common.{◌≡◌, ◌≢◌, ℕ, suc, ◌<◌, ◌≤◌, bit_xor, refl, sym, ap, ap₂, ◌∙◌, arith, inl, inr}
use Rattle.std.specs.Int.Bits.{xor_self, xor_zero_r, xor_zero_l}
use Rattle.std.proofs.lemmas.Nat.{xor_of_8}
use Rattle.pot_bytes.specs.Product.{byte_product}
use Rattle.pot_bytes.proofs.ProductLemmas.{byte_product-xor_right, byte_product-zero_left, byte_product-zero_right, byte_product-one_right, byte_product-comm}
use Rattle.pot_bytes.proofs.TotalLemmas.{from_zero}
use Rattle.pot_gf.specs.Field.{power}
use Rattle.pot_gf.proofs.FieldLemmas.{byte_product-cancel}
use Rattle.pot_steps.specs.Equations.{p_weight, q_weight}
use Rattle.pot_steps.specs.Flight.{weight, p_times, q_times}
use Rattle.pot_steps.proofs.Relays.{power-below, power-positive, sum-positive, kinds}
use Rattle.pot_steps.proofs.Relays as relays
use Rattle.pot_steps.proofs.Weights.{p_weight-low, p_weight-high, q_weight-low, q_weight-p, q_weight-q}
use Rattle.pot_steps.proofs.Rebuilt.{q_times-below, p_times-below}

-- a times the weight of P, and b times that of Q
abbrev row : ℕ → ℕ → ℕ → ℕ → ℕ
row w a b c = bit_xor (byte_product a (p_weight w c)) (byte_product b (q_weight w c))

at_data : (w c a b : ℕ) → a < 256 → c < w → row w a b c ≡ bit_xor a (byte_product b (power 3 c))
at_data w c a b ha h = ap₂ bit_xor (ap (byte_product a) (p_weight-low w c (omega arith)) ∙ byte_product-one_right a ha) (ap (byte_product b) (q_weight-low w c h))

at_p : (w c a b : ℕ) → a < 256 → c ≡ w → row w a b c ≡ a
at_p w c a b ha h = ap₂ bit_xor (ap (byte_product a) (p_weight-low w c (omega arith)) ∙ byte_product-one_right a ha) (ap (λ c. byte_product b (q_weight w c)) h ∙ ap (byte_product b) (q_weight-p w) ∙ byte_product-zero_right b) ∙ xor_zero_r a

at_q : (w c a b : ℕ) → b < 256 → w < c → row w a b c ≡ b
at_q w c a b hb h = ap₂ bit_xor (ap (byte_product a) (p_weight-high w c h) ∙ byte_product-zero_right a) (ap (byte_product b) (q_weight-q w c h) ∙ byte_product-one_right b hb) ∙ xor_zero_l b

-- the equation of a data column, where one of the two factors is 0
only_a : (a b g : ℕ) → bit_xor a (byte_product b g) ≡ 0 → b ≡ 0 → a ≡ 0
only_a a b g e z = sym (ap (bit_xor a) (ap (λ b. byte_product b g) z ∙ byte_product-zero_left g) ∙ xor_zero_r a) ∙ e

only_b : (a b g : ℕ) → b < 256 → 0 < g → g < 256 → bit_xor a (byte_product b g) ≡ 0 → a ≡ 0 → b ≡ 0
only_b a b g hb pos small e z = byte_product-cancel g b pos small hb (byte_product-comm g b ∙ sym (xor_zero_l (byte_product b g)) ∙ sym (ap (λ a. bit_xor a (byte_product b g)) z) ∙ e)

-- two columns fix both factors
module _ (w a b : ℕ) (small : w ≤ 16) (ha : a < 256) (hb : b < 256) where
  two_data : (u c : ℕ) → u < w → c < w → u ≢ c → row w a b u ≡ 0 → row w a b c ≡ 0 → (a ≡ 0) × (b ≡ 0)
  two_data u c hu hc ne e f =
      let gu : ℕ = power 3 u in let gc : ℕ = power 3 c in
      let at_u : bit_xor a (byte_product b gu) ≡ 0 = sym (at_data w u a b ha hu) ∙ e in
      let at_c : bit_xor a (byte_product b gc) ≡ 0 = sym (at_data w c a b ha hc) ∙ f in
      let same : byte_product b gu ≡ byte_product b gc = sym (from_zero a (byte_product b gu) at_u) ∙ from_zero a (byte_product b gc) at_c in
      let none : byte_product (bit_xor gu gc) b ≡ 0 = byte_product-comm (bit_xor gu gc) b ∙ byte_product-xor_right b gu gc ∙ ap (λ z. bit_xor z (byte_product b gc)) same ∙ xor_self (byte_product b gc) in
      let z : b ≡ 0 = byte_product-cancel (bit_xor gu gc) b (sum-positive u c (omega arith) (omega arith) ne) (xor_of_8 gu gc (power-below u) (power-below c)) hb none in
      (only_a a b gu at_u z, z)

  data_p : (u c : ℕ) → u < w → c ≡ w → row w a b u ≡ 0 → row w a b c ≡ 0 → (a ≡ 0) × (b ≡ 0)
  data_p u c hu hc e f =
      let z : a ≡ 0 = sym (at_p w c a b ha hc) ∙ f in
      (z, only_b a b (power 3 u) hb (power-positive u (omega arith)) (power-below u) (sym (at_data w u a b ha hu) ∙ e) z)

  data_q : (u c : ℕ) → u < w → w < c → row w a b u ≡ 0 → row w a b c ≡ 0 → (a ≡ 0) × (b ≡ 0)
  data_q u c hu hc e f = let z : b ≡ 0 = sym (at_q w c a b hb hc) ∙ f in (only_a a b (power 3 u) (sym (at_data w u a b ha hu) ∙ e) z, z)

  p_q : (u c : ℕ) → u ≡ w → w < c → row w a b u ≡ 0 → row w a b c ≡ 0 → (a ≡ 0) × (b ≡ 0)
  p_q u c hu hc e f = (sym (at_p w u a b ha hu) ∙ e, sym (at_q w c a b hb hc) ∙ f)

  independent : (u c : ℕ) → u ≤ suc w → c ≤ suc w → u ≢ c → row w a b u ≡ 0 → row w a b c ≡ 0 → (a ≡ 0) × (b ≡ 0)
  independent u c lu lc ne e f = elim (kinds w u) [
    | inl ud ↦ elim (kinds w c) [
      | inl cd ↦ two_data u c ud cd ne e f
      | inr (inl cp) ↦ data_p u c ud cp e f
      | inr (inr cq) ↦ data_q u c ud cq e f
    ]
    | inr (inl up) ↦ elim (kinds w c) [
      | inl cd ↦ data_p c u cd up f e
      | inr (inl cp) ↦ absurd (omega arith)
      | inr (inr cq) ↦ p_q u c up cq e f
    ]
    | inr (inr uq) ↦ elim (kinds w c) [
      | inl cd ↦ data_q c u cd uq f e
      | inr (inl cp) ↦ p_q c u cp uq f e
      | inr (inr cq) ↦ absurd (omega arith)
    ]
  ]

is_row : (w t u c : ℕ) → weight w t u c ≡ row w (p_times w t u) (q_times w t u) c
unfolding weight
is_row w t u c = refl

pub weight_positive : (w t u c : ℕ) → w ≤ 16 → t ≤ suc w → u ≤ suc w → c ≤ suc w → u ≢ t → c ≢ u → 0 < weight w t u c
weight_positive w t u c small lt lu lc ne apart = positive (weight w t u c) (λ e.
    (let z : (p_times w t u ≡ 0) × (q_times w t u ≡ 0) = independent w (p_times w t u) (q_times w t u) small (p_times-below w t u) (q_times-below w t u) c u lc lu apart (sym (is_row w t u c) ∙ e)
    (sym (is_row w t u u) ∙ relays.weight-left_out w t u small ne lt lu) in
    one_zero (sym (relays.weight-target w t u small ne lt lu) ∙ is_row w t u t ∙ ap₂ bit_xor (ap (λ a. byte_product a (p_weight w t)) z.0 ∙ byte_product-zero_left (p_weight w t)) (ap (λ b. byte_product b (q_weight w t)) z.1 ∙ byte_product-zero_left (q_weight w t)) ∙ xor_self 0)))
  where
    positive : (n : ℕ) → n ≢ 0 → 0 < n
    positive n h = omega arith

    one_zero : ◌≡◌ {A = ℕ} 1 0 → ⊥
    one_zero e = omega arith
