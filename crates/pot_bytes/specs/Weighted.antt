-- Weighted sums of lists of bytes, place by place.
use Rattle.std.specs.Prelude.{◌≡◌, ◌≤◌, ℕ, List, [], ◌∷◌, ◌++◌, length, map, replicate, bit_xor}
use Rattle.std.specs.Simd.Lanes.{zip2}
use Rattle.pot_bytes.specs.Lists.{AreBytes}
use Rattle.pot_bytes.specs.Product.{byte_product}
use Rattle.pot_bytes.specs.Sums.{xor}

-- a weight times each byte
abbrev pub scaled : ℕ → List ℕ → List ℕ
scaled weight bytes = map (byte_product weight) bytes

-- the sum of each list times its weight, zeros for none
abbrev pub weighted_sum : ℕ → List ℕ → List (List ℕ) → List ℕ
weighted_sum n [] bs = replicate n 0
weighted_sum n (w ∷ ws) [] = replicate n 0
weighted_sum n (w ∷ ws) (b ∷ bs) = xor (scaled w b) (weighted_sum n ws bs)

-- The laws of weighted sums.
pub record WeightedLaws : Type 0 where
  -- a weight is linear, and so is what it weighs
  pub weights : (v w : ℕ) (a : List ℕ) → scaled (bit_xor v w) a ≡ xor (scaled v a) (scaled w a)
  pub lists : (w : ℕ) (a b : List ℕ) → scaled w (xor a b) ≡ xor (scaled w a) (scaled w b)
  pub zero : (a : List ℕ) → scaled 0 a ≡ replicate (length a) 0
  pub one : (a : List ℕ) → AreBytes a → scaled 1 a ≡ a
  -- hence a weighted sum is linear in its weights and in its lists
  pub sum_weights : (n : ℕ) (vs ws : List ℕ) (bs : List (List ℕ)) → length vs ≡ length ws
      → weighted_sum n (xor vs ws) bs ≡ xor (weighted_sum n vs bs) (weighted_sum n ws bs)
  pub sum_lists : (n : ℕ) (ws : List ℕ) (cs bs : List (List ℕ)) → length cs ≡ length bs
      → weighted_sum n ws (zip2 xor cs bs) ≡ xor (weighted_sum n ws cs) (weighted_sum n ws bs)
  -- a summand that changes from `old` to `new` changes the sum by its weight times their XOR
  pub changed : (n : ℕ) (vs : List ℕ) (w : ℕ) (ws : List ℕ) (before after : List (List ℕ))
      (old new : List ℕ)
      → length vs ≡ length before → length new ≤ length old
      → weighted_sum n (vs ++ w ∷ ws) (before ++ new ∷ after)
      ≡ xor (weighted_sum n (vs ++ w ∷ ws) (before ++ old ∷ after)) (scaled w (xor old new))
