-- The block of a column that is made anew from the others.
use Rattle.std.specs.Prelude.{◌≡◌, ◌≢◌, ◌+◌, ◌<◌, ℕ, List, bit_xor, slice_index, slice_index_or}
use Rattle.pot_bytes.specs.Lists.{IsBlock}
use Rattle.pot_bytes.specs.Product.{byte_product}
use Rattle.pot_bytes.specs.Sums.{zero_block}
use Rattle.pot_steps.specs.Equations.{p_weight, q_weight}
use Rattle.pot_steps.specs.Stripe.{Stripe, Filling}

-- the block of a column, zeros where there is none
abbrev pub column_of : List (List ℕ) → ℕ → List ℕ
column_of blocks c = slice_index_or blocks c zero_block

-- It is the block of column `t` in every filling of every stripe that has these blocks at all
-- columns but `t` and `u`.
abbrev pub IsRebuilt : ℕ → ℕ → ℕ → ℕ → List (List ℕ) → List ℕ → Type 0
IsRebuilt data_columns parity t u blocks x =
    (s : Stripe) (filling : ℕ → List ℕ) → Filling data_columns parity s filling
    → ((c : ℕ) → c < data_columns + parity → c ≢ t → c ≢ u → filling c ≡ column_of blocks c)
    → x ≡ filling t

-- the weight of a column, where the first equation is taken `p` times and the second `q` times
abbrev pub weight_by : ℕ → ℕ → ℕ → ℕ → ℕ
weight_by data_columns p q c =
    bit_xor (byte_product p (p_weight data_columns c)) (byte_product q (q_weight data_columns c))

-- the block of a column came to a sum, times the weight of the column
pub record AddsWeighted (data_columns p q c : ℕ) (before after block : List ℕ) : Type 0 where
  pub whole : IsBlock after
  pub bytes : (k : ℕ)
      → slice_index after k
      ≡ bit_xor (slice_index before k)
      (byte_product (weight_by data_columns p q c) (slice_index block k))
