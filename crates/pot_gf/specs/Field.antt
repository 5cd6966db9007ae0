-- The field with 256 elements of FIPS 197, 4. Its sum is `bit_xor`, its product `byte_product`, its
-- elements the bytes.
use Rattle.std.specs.Prelude.{◌≡◌, ◌⊎◌, ℕ, zero, suc, ◌<◌, bit_xor}
use Rattle.pot_bytes.specs.Product.{byte_product}

-- `a` to the power `n`
unfoldable pub power : ℕ → ℕ → ℕ
power a zero = 1
power a (suc n) = byte_product a (power a n)

-- the inverse of `a`, by Fermat's little theorem
unfoldable pub inverse : ℕ → ℕ
inverse a = power a 254

-- The laws of a field. Those without a premise hold of all numbers, of which the product reads the
-- lowest eight bits.
pub record FieldLaws : Type 0 where
  pub is_byte : (a b : ℕ) → byte_product a b < 256
  pub commutes : (a b : ℕ) → byte_product a b ≡ byte_product b a
  pub associates : (a b c : ℕ)
      → byte_product (byte_product a b) c ≡ byte_product a (byte_product b c)
  pub distributes : (a b c : ℕ)
      → byte_product a (bit_xor b c) ≡ bit_xor (byte_product a b) (byte_product a c)
  pub one : (a : ℕ) → a < 256 → byte_product 1 a ≡ a
  pub zero_times : (a : ℕ) → byte_product 0 a ≡ 0
  pub has_inverse : (a : ℕ) → 0 < a → a < 256 → byte_product a (inverse a) ≡ 1
  pub no_zero_divisors : (a b : ℕ) → a < 256 → b < 256 → byte_product a b ≡ 0 → (a ≡ 0) ⊎ (b ≡ 0)
