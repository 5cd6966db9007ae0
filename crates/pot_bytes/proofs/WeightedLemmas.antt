-- Laws of weighted sums.
use Rattle.std.proofs.Common.{◌≡◌, ◌≤◌, ℕ, zero, suc, List, [], ◌∷◌, ◌++◌, length, get_or, replicate, refl, ap, ap₂, sym, ◌∙◌, arith, bit_xor}
use Rattle.std.proofs.lemmas.List.{length-map, length-replicate}
use Rattle.std.specs.Simd.Lanes.{zip2}
use Rattle.pot_bytes.specs.Lists.{AreBytes}
use Rattle.pot_bytes.specs.Sums.{xor, sum_of}
use Rattle.pot_bytes.specs.Product.{byte_product}
use Rattle.pot_bytes.specs.Weighted.{scaled, weighted_sum, WeightedLaws}
use Rattle.pot_bytes.proofs.ProductLemmas.{byte_product-xor_left, byte_product-xor_right, byte_product-zero_left, byte_product-zero_right, byte_product-one_left}
use Rattle.pot_bytes.proofs.SumLemmas.{xor_comm, xor_assoc, xor_again, xor_replicate, length-xor_le}

pub scaled-xor_weight : (v w : ℕ) (a : List ℕ) → scaled (bit_xor v w) a ≡ xor (scaled v a) (scaled w a)
scaled-xor_weight v w [] = refl
scaled-xor_weight v w (x ∷ a) = ap₂ (λ h t. h ∷ t) (byte_product-xor_left v w x) (scaled-xor_weight v w a)

pub scaled-xor : (w : ℕ) (a b : List ℕ) → scaled w (xor a b) ≡ xor (scaled w a) (scaled w b)
scaled-xor w [] b = refl
scaled-xor w (x ∷ a) [] = refl
scaled-xor w (x ∷ a) (y ∷ b) = ap₂ (λ h t. h ∷ t) (byte_product-xor_right w x y) (scaled-xor w a b)

-- the weight 0 leaves nothing
pub scaled-zero : (a : List ℕ) → scaled 0 a ≡ replicate (length a) 0
scaled-zero [] = refl
scaled-zero (x ∷ a) = ap₂ (λ h t. h ∷ t) (byte_product-zero_left x) (scaled-zero a)

pub scaled-zeros : (w n : ℕ) → scaled w (replicate n 0) ≡ replicate n 0
scaled-zeros w zero = refl
scaled-zeros w (suc n) = ap₂ (λ h t. h ∷ t) (byte_product-zero_right w) (scaled-zeros w n)

-- the weight 1 changes no byte
pub scaled-one : (a : List ℕ) → AreBytes a → scaled 1 a ≡ a
scaled-one [] h = refl
scaled-one (x ∷ a) h = ap₂ (λ r t. r ∷ t) (byte_product-one_left x (h 0)) (scaled-one a (λ k. h (suc k)))

pub get_or-scaled : (w : ℕ) (a : List ℕ) (k : ℕ) → get_or (scaled w a) k 0 ≡ byte_product w (get_or a k 0)
get_or-scaled w [] k = sym (byte_product-zero_right w)
get_or-scaled w (x ∷ a) zero = refl
get_or-scaled w (x ∷ a) (suc k) = get_or-scaled w a k

-- each place of an XOR
pub get_or-xor : (p q : List ℕ) (t : ℕ) → length p ≡ length q → get_or (xor p q) t 0 ≡ bit_xor (get_or p t 0) (get_or q t 0)
get_or-xor [] [] t e = refl
get_or-xor [] (d ∷ q) t e = absurd (omega arith)
get_or-xor (c ∷ p) [] t e = absurd (omega arith)
get_or-xor (c ∷ p) (d ∷ q) zero e = refl
get_or-xor (c ∷ p) (d ∷ q) (suc t) e = get_or-xor p q t (omega arith)

pub length-sum_of : (n : ℕ) (bs : List (List ℕ)) → length (sum_of n bs) ≤ n
length-sum_of n [] = omega (arith, length-replicate {A = ℕ} n 0)
length-sum_of n (b ∷ bs) =
    let h : length (sum_of n bs) ≤ n = length-sum_of n bs in
    let k : length (xor b (sum_of n bs)) ≤ length (sum_of n bs) = length-xor_le b (sum_of n bs) in omega arith

-- the middle two of four lists changed over
xor_interchange : (p q r s : List ℕ) → xor (xor p q) (xor r s) ≡ xor (xor p r) (xor q s)
xor_interchange p q r s =
    xor_assoc p q (xor r s) ∙ ap (λ z. xor p z) (sym (xor_assoc q r s) ∙ ap (λ z. xor z s) (xor_comm q r) ∙ xor_assoc r q s)
    ∙ sym (xor_assoc p r (xor q s))

zeros_twice : (n : ℕ) → replicate n 0 ≡ xor (replicate n 0) (replicate n 0)
zeros_twice n = sym (xor_replicate n (replicate n 0) (omega (arith, length-replicate {A = ℕ} n 0)))

-- a weighted sum is linear in its weights
pub weighted_sum-xor_weights : (n : ℕ) (vs ws : List ℕ) (bs : List (List ℕ)) → length vs ≡ length ws
    → weighted_sum n (xor vs ws) bs ≡ xor (weighted_sum n vs bs) (weighted_sum n ws bs)
weighted_sum-xor_weights n [] [] bs e = zeros_twice n
weighted_sum-xor_weights n [] (w ∷ ws) bs e = absurd (omega arith)
weighted_sum-xor_weights n (v ∷ vs) [] bs e = absurd (omega arith)
weighted_sum-xor_weights n (v ∷ vs) (w ∷ ws) [] e = zeros_twice n
weighted_sum-xor_weights n (v ∷ vs) (w ∷ ws) (b ∷ bs) e =
    ap₂ xor (scaled-xor_weight v w b) (weighted_sum-xor_weights n vs ws bs (omega arith))
    ∙ xor_interchange (scaled v b) (scaled w b) (weighted_sum n vs bs) (weighted_sum n ws bs)

-- and in its lists
pub weighted_sum-xor_lists : (n : ℕ) (ws : List ℕ) (cs bs : List (List ℕ)) → length cs ≡ length bs
    → weighted_sum n ws (zip2 xor cs bs) ≡ xor (weighted_sum n ws cs) (weighted_sum n ws bs)
weighted_sum-xor_lists n [] cs bs e = zeros_twice n
weighted_sum-xor_lists n (w ∷ ws) [] [] e = zeros_twice n
weighted_sum-xor_lists n (w ∷ ws) [] (b ∷ bs) e = absurd (omega arith)
weighted_sum-xor_lists n (w ∷ ws) (a ∷ cs) [] e = absurd (omega arith)
weighted_sum-xor_lists n (w ∷ ws) (a ∷ cs) (b ∷ bs) e =
    ap₂ xor (scaled-xor w a b) (weighted_sum-xor_lists n ws cs bs (omega arith))
    ∙ xor_interchange (scaled w a) (scaled w b) (weighted_sum n ws cs) (weighted_sum n ws bs)

-- a summand that changes from `old` to `new` changes the sum by its weight times `xor old new`
pub weighted_sum-changed : (n : ℕ) (vs : List ℕ) (w : ℕ) (ws : List ℕ) (before after : List (List ℕ)) (old new : List ℕ)
    → length vs ≡ length before → length new ≤ length old
    → weighted_sum n (vs ++ w ∷ ws) (before ++ new ∷ after) ≡ xor (weighted_sum n (vs ++ w ∷ ws) (before ++ old ∷ after)) (scaled w (xor old new))
weighted_sum-changed n [] w ws [] after old new e h =
    xor_comm (scaled w new) (weighted_sum n ws after)
    ∙ sym (xor_again (scaled w old) (weighted_sum n ws after) (scaled w new) (omega (arith, length-map old (byte_product w), length-map new (byte_product w))))
    ∙ ap (λ z. xor (xor (scaled w old) (weighted_sum n ws after)) z) (sym (scaled-xor w old new))
weighted_sum-changed n [] w ws (b ∷ before) after old new e h = absurd (omega arith)
weighted_sum-changed n (v ∷ vs) w ws [] after old new e h = absurd (omega arith)
weighted_sum-changed n (v ∷ vs) w ws (b ∷ before) after old new e h =
    ap (λ z. xor (scaled v b) z) (weighted_sum-changed n vs w ws before after old new (omega arith) h)
    ∙ sym (xor_assoc (scaled v b) (weighted_sum n (vs ++ w ∷ ws) (before ++ old ∷ after)) (scaled w (xor old new)))

pub weighted_laws : WeightedLaws
weighted_laws = record {
  weights = scaled-xor_weight;
  lists = scaled-xor;
  zero = scaled-zero;
  one = scaled-one;
  sum_weights = weighted_sum-xor_weights;
  sum_lists = weighted_sum-xor_lists;
  changed = weighted_sum-changed;
}
