-- The equations of a stripe. Its data columns are 0 to C-1, column C is P, and column C+1 is Q
-- where there are two parity columns. The XOR of the data blocks and P is zero, and so is that of
-- 3^c times the block of each data column c, and Q.
use Rattle.std.specs.Prelude.{ℕ, ◌≡◌, ◌<◌, List, slice_index, nat_lt, nat_le, nat_eq}
use Rattle.std.specs.Prelude.{if◌then◌else◌}
use Rattle.pot_bytes.specs.Totals.{total}
use Rattle.pot_bytes.specs.Product.{byte_product}
use Rattle.pot_gf.specs.Field.{power}

-- byte `k` of the XOR of weight times block over the first `n` columns
abbrev pub sum_at : ℕ → (ℕ → ℕ) → (ℕ → List ℕ) → ℕ → ℕ
sum_at n weight blocks k = total n (λ c. byte_product (weight c) (slice_index (blocks c) k))

-- the weight of a column in the first equation
unfoldable pub p_weight : ℕ → ℕ → ℕ
p_weight data_columns c = if nat_le c data_columns then 1 else 0

-- and in the second
unfoldable pub q_weight : ℕ → ℕ → ℕ
q_weight data_columns c =
    if nat_lt c data_columns then power 3 c else if nat_eq c data_columns then 0 else 1
