-- Two columns that are each the weighted sum of the others leave both equations at zero, and no
-- other blocks do.
use Rattle.std.proofs.Common.{◌≡◌, ◌≢◌, ℕ, zero, suc, ◌<◌, ◌≤◌, bit_xor, refl, sym, ap, ap₂, ◌∙◌, arith, inl, inr, subst, get_or, lit<, List}
use Rattle.std.specs.Int.Bits.{xor_assoc, xor_self, xor_zero_r, xor_zero_l}
use Rattle.std.proofs.lemmas.Nat.{xor_comm}
use Rattle.pot_bytes.specs.Totals.{total}
use Rattle.pot_bytes.specs.Product.{byte_product}
use Rattle.pot_bytes.specs.Sums.{xor, zero_block}
use Rattle.pot_bytes.specs.Weighted.{scaled}
use Rattle.pot_bytes.proofs.ProductLemmas.{byte_product-xor_left, byte_product-xor_right, byte_product-below, byte_product-zero_left, byte_product-zero_right, byte_product-one_left}
use Rattle.pot_bytes.proofs.TotalLemmas.{total_change, from_zero, xor_cancel}
use Rattle.pot_bytes.proofs.WeightedLemmas.{get_or-xor, get_or-scaled}
use Rattle.pot_gf.specs.Field.{power, inverse}
use Rattle.pot_gf.proofs.FieldLemmas.{byte_product-assoc, byte_product-inverse, byte_product-cancel}
use Rattle.pot_bytes.specs.Lists.{IsBlock}
use Rattle.pot_steps.specs.Equations.{p_weight, q_weight}
use Rattle.pot_steps.specs.Flight.{weight, p_times, q_times}
use Rattle.pot_steps.proofs.BlockLemmas.{get_or-zero_block, IsBlock-xor, IsBlock-scaled, same_blocks, IsBlock-zero_block}
use Rattle.pot_steps.proofs.Relays.{power-below, power-positive, sum-positive, inverse-below, kinds, p-data_data, p-data_p, p-low_q, p-p, q-data_data, q-data_p, q-low_q, q-q}
use Rattle.pot_steps.proofs.Rebuilt.{combined}
use Rattle.std.proofs.lemmas.Nat.{xor_of_8}

-- the partial after a hop, and before the first
pub grown : (sum blind b : List ℕ) (w k : ℕ) → IsBlock sum → IsBlock blind → IsBlock b → w < 256
    → get_or (xor (xor sum (scaled w b)) blind) k 0 ≡ bit_xor (get_or (xor sum blind) k 0) (byte_product w (get_or b k 0))
grown sum blind b w k hs hr hb hw =
    let sb : IsBlock (scaled w b) = IsBlock-scaled w b hb in
    let ss : IsBlock (xor sum (scaled w b)) = IsBlock-xor sum (scaled w b) hs sb in
    get_or-xor (xor sum (scaled w b)) blind k (ss.size ∙ sym hr.size)
    ∙ ap (λ z. bit_xor z (get_or blind k 0)) (get_or-xor sum (scaled w b) k (hs.size ∙ sym sb.size) ∙ ap (bit_xor (get_or sum k 0)) (get_or-scaled w b k))
    ∙ xor_assoc (get_or sum k 0) (byte_product w (get_or b k 0)) (get_or blind k 0)
    ∙ ap (bit_xor (get_or sum k 0)) (xor_comm (byte_product w (get_or b k 0)) (get_or blind k 0))
    ∙ sym (xor_assoc (get_or sum k 0) (get_or blind k 0) (byte_product w (get_or b k 0)))
    ∙ ap (λ z. bit_xor z (byte_product w (get_or b k 0))) (sym (get_or-xor sum blind k (hs.size ∙ sym hr.size)))

pub begun : (blind : List ℕ) → IsBlock blind → xor blind blind ≡ zero_block
begun blind h = same_blocks (xor blind blind) zero_block (IsBlock-xor blind blind h h) IsBlock-zero_block (λ k. get_or-xor blind blind k refl ∙ xor_self (get_or blind k 0) ∙ sym (get_or-zero_block k))

-- what is zero times a number that has an inverse is zero
divided : (a x : ℕ) → 0 < a → a < 256 → x < 256 → byte_product (inverse a) x ≡ 0 → x ≡ 0
divided a x ha hb hx h =
    sym (byte_product-one_left x hx) ∙ ap (λ z. byte_product z x) (sym (byte_product-inverse a ha hb)) ∙ byte_product-assoc a (inverse a) x ∙ ap (byte_product a) h ∙ byte_product-zero_right a

-- both equations of the table, for each pair of columns
module _ (data_columns : ℕ) (small : data_columns ≤ 16) (p q : ℕ) (p_below : p < 256) (q_below : q < 256) where
  pub Both : ℕ → ℕ → Type 0
  Both t u = bit_xor (byte_product (p_times data_columns t u) p) (byte_product (q_times data_columns t u) q) ≡ 0

  side : (t u : ℕ) → t < data_columns → u < data_columns → t ≢ u → bit_xor (byte_product (p_times data_columns t u) p) (byte_product (q_times data_columns t u) q) ≡ 0 → byte_product (power 3 u) p ≡ q
  side t u ht hu ne e =
      let gt : ℕ = power 3 t in let gu : ℕ = power 3 u in let b : ℕ = inverse (bit_xor gt gu) in
      let below : bit_xor gt gu < 256 = xor_of_8 gt gu (power-below t) (power-below u) in
      let b_below : b < 256 = inverse-below (bit_xor gt gu) in
      let joined : byte_product b (bit_xor (byte_product gu p) q) ≡ 0 =
      byte_product-xor_right b (byte_product gu p) q
      ∙ ap (λ z. bit_xor z (byte_product b q)) (sym (byte_product-assoc b gu p))
      ∙ sym (ap₂ bit_xor (ap (λ z. byte_product z p) (p-data_data data_columns t u ht hu ∙ ap (λ z. byte_product z gu) (q-data_data data_columns t u ht hu))) (ap (λ z. byte_product z q) (q-data_data data_columns t u ht hu))) ∙ e in
      from_zero (byte_product gu p) q (divided (bit_xor gt gu) (bit_xor (byte_product gu p) q) (sum-positive t u (omega arith) (omega arith) ne) below
      (xor_of_8 (byte_product gu p) q (byte_product-below gu p) q_below) joined)

  data_data : (t u : ℕ) → t < data_columns → u < data_columns → t ≢ u → Both t u → Both u t → (p ≡ 0) × (q ≡ 0)
  unfolding Both
  data_data t u ht hu ne e f =
      let gt : ℕ = power 3 t in let gu : ℕ = power 3 u in
      let q_is : (t u : ℕ) → t < data_columns → u < data_columns → t ≢ u → bit_xor (byte_product (p_times data_columns t u) p) (byte_product (q_times data_columns t u) q) ≡ 0 → byte_product (power 3 u) p ≡ q = (λ t u ht hu ne e. side t u ht hu ne e) in
      let same : bit_xor (byte_product gu p) (byte_product gt p) ≡ 0 = ap₂ bit_xor (q_is t u ht hu ne e) (q_is u t hu ht (λ h. ne (sym h)) f) ∙ xor_self q in
      let below : bit_xor gu gt < 256 = xor_of_8 gu gt (power-below u) (power-below t) in
      let p_zero : p ≡ 0 = byte_product-cancel (bit_xor gu gt) p (sum-positive u t (omega arith) (omega arith) (λ h. ne (sym h))) below p_below (byte_product-xor_left gu gt p ∙ same) in
      (p_zero, sym (q_is t u ht hu ne e) ∙ ap (byte_product gu) p_zero ∙ byte_product-zero_right gu)

  data_p : (t : ℕ) → t < data_columns → Both t data_columns → Both data_columns t → (p ≡ 0) × (q ≡ 0)
  unfolding Both
  data_p t ht e f =
      let q_zero : q ≡ 0 = divided (power 3 t) q (power-positive t (omega arith)) (power-below t) q_below
      (sym (ap₂ bit_xor (ap (λ z. byte_product z p) (p-data_p data_columns t data_columns ht refl) ∙ byte_product-zero_left p) (ap (λ z. byte_product z q) (q-data_p data_columns t data_columns ht refl)) ∙ xor_zero_l (byte_product (inverse (power 3 t)) q)) ∙ e) in
      let p_zero : p ≡ 0 = sym (ap₂ bit_xor (ap (λ z. byte_product z p) (p-p data_columns data_columns t refl) ∙ byte_product-one_left p p_below) (ap (byte_product (q_times data_columns data_columns t)) q_zero ∙ byte_product-zero_right (q_times data_columns data_columns t)) ∙ xor_zero_r p) ∙ f in
      (p_zero, q_zero)

  low_q : (t u : ℕ) → t ≤ data_columns → data_columns < u → Both t u → Both u t → (p ≡ 0) × (q ≡ 0)
  unfolding Both
  low_q t u ht hu e f =
      let p_zero : p ≡ 0 = sym (ap₂ bit_xor (ap (λ z. byte_product z p) (p-low_q data_columns t u ht hu) ∙ byte_product-one_left p p_below) (ap (λ z. byte_product z q) (q-low_q data_columns t u ht hu) ∙ byte_product-zero_left q) ∙ xor_zero_r p) ∙ e in
      let q_zero : q ≡ 0 = sym (ap₂ bit_xor (ap (byte_product (p_times data_columns u t)) p_zero ∙ byte_product-zero_right (p_times data_columns u t)) (ap (λ z. byte_product z q) (q-q data_columns u t hu) ∙ byte_product-one_left q q_below) ∙ xor_zero_l q) ∙ f in
      (p_zero, q_zero)

  pub both_zero : (t u : ℕ) → t ≤ suc data_columns → u ≤ suc data_columns → t ≢ u → Both t u → Both u t → (p ≡ 0) × (q ≡ 0)
  both_zero t u ht hu ne e f = elim (kinds data_columns t) [
    | inl td ↦ elim (kinds data_columns u) [
      | inl ud ↦ data_data t u td ud ne e f
      | inr (inl up) ↦ data_p t td (subst (Both t) up e) (subst (λ u. Both u t) up f)
      | inr (inr uq) ↦ low_q t u (omega arith) uq e f
    ]
    | inr (inl tp) ↦ elim (kinds data_columns u) [
      | inl ud ↦ data_p u ud (subst (Both u) tp f) (subst (λ t. Both t u) tp e)
      | inr (inl up) ↦ absurd (omega arith)
      | inr (inr uq) ↦ low_q t u (omega arith) uq e f
    ]
    | inr (inr tq) ↦ low_q u t (omega arith) tq f e
  ]

-- one column that is the weighted sum of the others makes the whole sum zero
pub whole_sum : (n : ℕ) (w x : ℕ → ℕ) (t : ℕ) → t < n → w t ≡ 1 → x t < 256 → (rest : ℕ → ℕ) → rest t ≡ 0 → ((c : ℕ) → c < n → c ≢ t → rest c ≡ byte_product (w c) (x c)) → x t ≡ total n rest → total n (λ c. byte_product (w c) (x c)) ≡ 0
whole_sum n w x t lt one below rest none others is =
    total_change n rest (λ c. byte_product (w c) (x c)) t lt (λ c l ne. sym (others c l ne))
    ∙ ap (bit_xor (total n rest)) (ap₂ bit_xor none (ap (λ z. byte_product z (x t)) one ∙ byte_product-one_left (x t) below) ∙ xor_zero_l (x t) ∙ is) ∙ xor_self (total n rest)

pub total-below : (n : ℕ) (f : ℕ → ℕ) → ((c : ℕ) → c < n → f c < 256) → total n f < 256
unfolding total
total-below zero f h = lit< tt
total-below (suc n) f h = xor_of_8 (total n f) (f n) (total-below n f (λ c l. h c (omega arith))) (h n (omega arith))

-- so blocks of which two are the weighted sums of the others solve both equations
pub solved : (data_columns n t u : ℕ) (x : ℕ → ℕ) → data_columns ≤ 16 → t ≤ suc data_columns → u ≤ suc data_columns → t ≢ u → ((c : ℕ) → c < n → x c < 256)
    → ((c : ℕ) → p_weight data_columns c < 256) → ((c : ℕ) → q_weight data_columns c < 256)
    → total n (λ c. byte_product (weight data_columns t u c) (x c)) ≡ 0 → total n (λ c. byte_product (weight data_columns u t c) (x c)) ≡ 0
    → (total n (λ c. byte_product (p_weight data_columns c) (x c)) ≡ 0) × (total n (λ c. byte_product (q_weight data_columns c) (x c)) ≡ 0)
unfolding Both
solved data_columns n t u x small ht hu ne below pb qb e f =
    both_zero data_columns small (total n (λ c. byte_product (p_weight data_columns c) (x c))) (total n (λ c. byte_product (q_weight data_columns c) (x c)))
    (total-below n _ (λ c l. byte_product-below (p_weight data_columns c) (x c))) (total-below n _ (λ c l. byte_product-below (q_weight data_columns c) (x c))) t u ht hu ne
    (sym (combined data_columns n t u x below) ∙ e) (sym (combined data_columns n u t x below) ∙ f)

-- the blind XOR the partial is the sum
pub heard : (sum blind : List ℕ) → IsBlock sum → IsBlock blind → xor blind (xor sum blind) ≡ sum
heard sum blind hs hr =
    let p : IsBlock (xor sum blind) = IsBlock-xor sum blind hs hr in
    same_blocks (xor blind (xor sum blind)) sum (IsBlock-xor blind (xor sum blind) hr p) hs (λ k.
    get_or-xor blind (xor sum blind) k (hr.size ∙ sym p.size)
    ∙ ap (bit_xor (get_or blind k 0)) (get_or-xor sum blind k (hs.size ∙ sym hr.size))
    ∙ xor_comm (get_or blind k 0) (bit_xor (get_or sum k 0) (get_or blind k 0)) ∙ xor_cancel (get_or sum k 0) (get_or blind k 0))
