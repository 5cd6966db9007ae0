-- The XOR of numbers.
use Rattle.std.specs.Prelude.{ℕ, zero, suc, bit_xor}

-- the XOR of the first `n` numbers
unfoldable pub total : ℕ → (ℕ → ℕ) → ℕ
total zero f = 0
total (suc n) f = bit_xor (total n f) (f n)
