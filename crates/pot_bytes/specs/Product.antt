-- The product of two bytes (FIPS 197, 4.2). A byte is a polynomial in z over the two elements 0 and
-- 1: its bit i is the coefficient of z^i. A sum is the XOR, and a product is taken modulo z^8 + z^4
-- + z^3 + z + 1.
use Rattle.std.specs.Prelude.{◌≡◌, ℕ, zero, suc, ◌+◌, ◌*◌, ◌/◌, ◌%◌, ◌^◌, ◌<◌, bit_xor}
use Rattle.pot_bytes.specs.Totals.{total}

-- the coefficient of z^i
unfoldable pub coefficient : ℕ → ℕ → ℕ
coefficient a i = a / 2 ^ i % 2

-- the product of two polynomials of degree below 8: the sum of all a_i b_j z^(i + j)
unfoldable pub polynomial_product : ℕ → ℕ → ℕ
polynomial_product a b =
    total 8 (λ i. total 8 (λ j. coefficient a i * (coefficient b j * 2 ^ (i + j))))

-- z^8 + z^4 + z^3 + z + 1
abbrev pub modulus : ℕ
modulus = 0x11b

-- what division by the modulus leaves of a polynomial of degree below 8 + n: the multiple of the
-- modulus that has its term of z^(7 + n) is taken away, then that of the next lower term
unfoldable pub remainder : ℕ → ℕ → ℕ
remainder zero p = p
remainder (suc n) p = remainder n (bit_xor p (coefficient p (8 + n) * (modulus * 2 ^ n)))

-- the product of two bytes
unfoldable pub byte_product : ℕ → ℕ → ℕ
byte_product a b = remainder 7 (polynomial_product a b)

-- What makes it the product modulo z^8 + z^4 + z^3 + z + 1 : it is a byte, and differs from the
-- polynomial product by a sum of multiples of the modulus.
pub record ProductLaws : Type 0 where
  pub is_byte : (a b : ℕ) → byte_product a b < 256
  pub is_remainder : (a b : ℕ) → (q : ℕ → ℕ) × ((i : ℕ) → q i < 2)
      × (polynomial_product a b
      ≡ bit_xor (total 7 (λ i. q i * (modulus * 2 ^ i))) (byte_product a b))
  pub commutes : (a b : ℕ) → byte_product a b ≡ byte_product b a
  pub linear : (a b c : ℕ)
      → byte_product a (bit_xor b c) ≡ bit_xor (byte_product a b) (byte_product a c)
  pub zero : (a : ℕ) → byte_product a 0 ≡ 0
  pub one : (a : ℕ) → a < 256 → byte_product a 1 ≡ a
