-- The product is linear in each operand, and what holds of single bits so holds of all bytes.
use Rattle.std.proofs.Common.{Bool, false, nat_lt, ◌≡◌, ℕ, zero, suc, ◌+◌, ◌*◌, ◌/◌, ◌%◌, ◌^◌, ◌<◌, bit_xor, true, nat_eq, refl, sym, ap, ap₂, ◌∙◌, arith, lit<}
use native.Mathlib.Nat.{zero-mul, one-mul}
use Rattle.std.specs.Int.Bits.{xor_assoc, xor_self, xor_zero_r, xor_zero_l}
use Rattle.std.proofs.lemmas.Nat.{xor_comm, xor_shr, xor_mod, xor_block}
use Rattle.std.proofs.lemmas.Bool.Decides.{nat_tests}
use lib.Bits.{xor_shifted}
use Rattle.pot_bytes.proofs.Basis.{every, every_at, less, IsLinear, linear_zero, from_basis, below_from_basis}
use Rattle.std.specs.Prelude.{if◌then◌else◌}
use Rattle.std.proofs.lemmas.Bool.{eqb-true}
use Rattle.pot_bytes.specs.Totals.{total}
use Rattle.pot_bytes.specs.Product.{coefficient, polynomial_product, modulus, remainder, byte_product, ProductLaws}
use Rattle.pot_bytes.proofs.TotalLemmas.{xor_cancel, interchange, total_same, total_xor}

coefficient-below : (a i : ℕ) → coefficient a i < 2
unfolding coefficient
coefficient-below a i = let h : a / 2 ^ i % 2 < 2 = omega arith in h

coefficient-xor : (a b i : ℕ) → coefficient (bit_xor a b) i ≡ bit_xor (coefficient a i) (coefficient b i)
unfolding coefficient
coefficient-xor a b i = ap (λ z. z % 2) (xor_shr a b i) ∙ xor_mod (a / 2 ^ i) (b / 2 ^ i) 1

-- a bit times `c`
bit_times : (r s c : ℕ) → r < 2 → s < 2 → bit_xor r s * c ≡ bit_xor (r * c) (s * c)
bit_times zero s c hr hs = simp (zero-mul, xor_zero_l)
bit_times (suc zero) zero c hr hs = simp (zero-mul, one-mul, xor_zero_r)
bit_times (suc zero) (suc zero) c hr hs = simp (one-mul, zero-mul, xor_self)
bit_times (suc zero) (suc (suc s)) c hr hs = absurd (omega arith)
bit_times (suc (suc r)) s c hr hs = absurd (omega arith)

times_bit : (r a b : ℕ) → r < 2 → r * bit_xor a b ≡ bit_xor (r * a) (r * b)
times_bit zero a b h = simp zero-mul
times_bit (suc zero) a b h = simp one-mul
times_bit (suc (suc r)) a b h = absurd (omega arith)

coefficient_times : (a b i c : ℕ) → coefficient (bit_xor a b) i * c ≡ bit_xor (coefficient a i * c) (coefficient b i * c)
coefficient_times a b i c =
    ap (λ z. z * c) (coefficient-xor a b i)
    ∙ bit_times (coefficient a i) (coefficient b i) c (coefficient-below a i) (coefficient-below b i)

polynomial_product-left : (a b c : ℕ) → polynomial_product (bit_xor a b) c ≡ bit_xor (polynomial_product a c) (polynomial_product b c)
unfolding polynomial_product
polynomial_product-left a b c =
    total_same 8 _ _ (λ i _. total_same 8 _ _ (λ j _. coefficient_times a b i (coefficient c j * 2 ^ (i + j)))
    ∙ total_xor 8 (λ j. coefficient a i * (coefficient c j * 2 ^ (i + j))) (λ j. coefficient b i * (coefficient c j * 2 ^ (i + j))))
    ∙ total_xor 8 (λ i. total 8 (λ j. coefficient a i * (coefficient c j * 2 ^ (i + j)))) (λ i. total 8 (λ j. coefficient b i * (coefficient c j * 2 ^ (i + j))))

polynomial_product-right : (a b c : ℕ) → polynomial_product a (bit_xor b c) ≡ bit_xor (polynomial_product a b) (polynomial_product a c)
unfolding polynomial_product
polynomial_product-right a b c =
    total_same 8 _ _ (λ i _. total_same 8 _ _ (λ j _. ap (λ z. coefficient a i * z) (coefficient_times b c j (2 ^ (i + j)))
    ∙ times_bit (coefficient a i) (coefficient b j * 2 ^ (i + j)) (coefficient c j * 2 ^ (i + j)) (coefficient-below a i))
    ∙ total_xor 8 (λ j. coefficient a i * (coefficient b j * 2 ^ (i + j))) (λ j. coefficient a i * (coefficient c j * 2 ^ (i + j))))
    ∙ total_xor 8 (λ i. total 8 (λ j. coefficient a i * (coefficient b j * 2 ^ (i + j)))) (λ i. total 8 (λ j. coefficient a i * (coefficient c j * 2 ^ (i + j))))

remainder-xor : (n p q : ℕ) → remainder n (bit_xor p q) ≡ bit_xor (remainder n p) (remainder n q)
unfolding remainder
remainder-xor zero p q = refl
remainder-xor (suc n) p q =
    ap (λ z. remainder n (bit_xor (bit_xor p q) z)) (coefficient_times p q (8 + n) (modulus * 2 ^ n))
    ∙ ap (remainder n) (interchange p q (coefficient p (8 + n) * (modulus * 2 ^ n)) (coefficient q (8 + n) * (modulus * 2 ^ n)))
    ∙ remainder-xor n (bit_xor p (coefficient p (8 + n) * (modulus * 2 ^ n))) (bit_xor q (coefficient q (8 + n) * (modulus * 2 ^ n)))

-- the product is linear in its first operand
pub byte_product-xor_left : (a b c : ℕ) → byte_product (bit_xor a b) c ≡ bit_xor (byte_product a c) (byte_product b c)
unfolding byte_product
byte_product-xor_left a b c =
    ap (remainder 7) (polynomial_product-left a b c) ∙ remainder-xor 7 (polynomial_product a c) (polynomial_product b c)

-- and in its second
pub byte_product-xor_right : (a b c : ℕ) → byte_product a (bit_xor b c) ≡ bit_xor (byte_product a b) (byte_product a c)
unfolding byte_product
byte_product-xor_right a b c =
    ap (remainder 7) (polynomial_product-right a b c) ∙ remainder-xor 7 (polynomial_product a b) (polynomial_product a c)

-- only the lowest eight bits of an operand count
coefficient-byte : (i a : ℕ) → i < 8 → coefficient a i ≡ coefficient (a % 256) i
unfolding coefficient
coefficient-byte zero a h = omega arith
coefficient-byte (suc zero) a h = omega arith
coefficient-byte (suc (suc zero)) a h = omega arith
coefficient-byte (suc (suc (suc zero))) a h = omega arith
coefficient-byte (suc (suc (suc (suc zero)))) a h = omega arith
coefficient-byte (suc (suc (suc (suc (suc zero))))) a h = omega arith
coefficient-byte (suc (suc (suc (suc (suc (suc zero)))))) a h = omega arith
coefficient-byte (suc (suc (suc (suc (suc (suc (suc zero))))))) a h = omega arith
coefficient-byte (suc (suc (suc (suc (suc (suc (suc (suc i)))))))) a h = absurd (omega arith)

pub byte_product-bytes : (a b : ℕ) → byte_product a b ≡ byte_product (a % 256) (b % 256)
unfolding byte_product polynomial_product
byte_product-bytes a b =
    ap (remainder 7) (total_same 8 _ _ (λ i hi. total_same 8 _ _ (λ j hj.
    ap₂ (λ x y. x * (y * 2 ^ (i + j))) (coefficient-byte i a hi) (coefficient-byte j b hj))))

pub linear_left : (b : ℕ) → IsLinear (λ x. byte_product x b)
linear_left b = record { keeps = λ x y. byte_product-xor_left x y b }

pub linear_right : (a : ℕ) → IsLinear (byte_product a)
linear_right a = record { keeps = λ x y. byte_product-xor_right a x y }

pub byte_product-zero_right : (a : ℕ) → byte_product a 0 ≡ 0
byte_product-zero_right a = linear_zero (byte_product a) (linear_right a)

pub byte_product-zero_left : (a : ℕ) → byte_product 0 a ≡ 0
byte_product-zero_left a = linear_zero (λ x. byte_product x a) (linear_left a)

pub byte : (a : ℕ) → a % 256 < 2 ^ 8
byte a = omega arith

below_table : every 8 (λ i. every 8 (λ j. nat_lt (byte_product (2 ^ i) (2 ^ j)) 256)) ≡ true
unfolding every total coefficient polynomial_product remainder byte_product
below_table = refl

-- the product of any two numbers is a byte
pub byte_product-below : (a b : ℕ) → byte_product a b < 256
byte_product-below a b =
    rw byte_product-bytes (below_from_basis 8 8 (λ x. byte_product x (b % 256)) (linear_left (b % 256)) (λ i hi.
    below_from_basis 8 8 (byte_product (2 ^ i)) (linear_right (2 ^ i)) (λ j hj.
    less _ _ (every_at 8 (λ j. nat_lt (byte_product (2 ^ i) (2 ^ j)) 256) j
    (every_at 8 (λ i. every 8 (λ j. nat_lt (byte_product (2 ^ i) (2 ^ j)) 256)) i below_table hi) hj)) (b % 256) (byte b)) (a % 256) (byte a))

one_table : every 8 (λ i. nat_eq (byte_product 1 (2 ^ i)) (2 ^ i)) ≡ true
unfolding every total coefficient polynomial_product remainder byte_product
one_table = refl

one_table_right : every 8 (λ i. nat_eq (byte_product (2 ^ i) 1) (2 ^ i)) ≡ true
unfolding every total coefficient polynomial_product remainder byte_product
one_table_right = refl

itself : IsLinear (λ x. x)
itself = record { keeps = λ x y. refl }

pub byte_product-one_left : (a : ℕ) → a < 256 → byte_product 1 a ≡ a
byte_product-one_left a h =
    from_basis 8 (byte_product 1) (λ x. x) (linear_right 1) itself (λ i hi. eqb-true _ _ (every_at 8 (λ i. nat_eq (byte_product 1 (2 ^ i)) (2 ^ i)) i one_table hi)) a h

pub byte_product-one_right : (a : ℕ) → a < 256 → byte_product a 1 ≡ a
byte_product-one_right a h =
    from_basis 8 (λ x. byte_product x 1) (λ x. x) (linear_left 1) itself (λ i hi. eqb-true _ _ (every_at 8 (λ i. nat_eq (byte_product (2 ^ i) 1) (2 ^ i)) i one_table_right hi)) a h

times_two-xor : (a b : ℕ) → bit_xor a b * 2 ≡ bit_xor (a * 2) (b * 2)
times_two-xor a b =
    let e : bit_xor (a * 2 ^ 1 + 0) (b * 2 ^ 1 + 0) ≡ bit_xor a b * 2 ^ 1 + bit_xor 0 0 = xor_block 1 a b 0 0 (lit< tt) (lit< tt) in
    let f : a * 2 ^ 1 + 0 ≡ a * 2 = omega arith in
    let g : b * 2 ^ 1 + 0 ≡ b * 2 = omega arith in
    let h : bit_xor a b * 2 ^ 1 + bit_xor 0 0 ≡ bit_xor a b * 2 = omega arith in
    cc

-- a byte times z: its bits go up by one, and z^8 is z^4 + z^3 + z + 1
doubled : ℕ → ℕ
doubled a = bit_xor (a * 2 % 256) (a / 128 % 2 * 27)

linear_doubled : IsLinear doubled
unfolding doubled
linear_doubled = record {
  keeps = λ a b.
      ap (λ z. bit_xor (z % 256) (bit_xor a b / 128 % 2 * 27)) (times_two-xor a b)
      ∙ ap (λ z. bit_xor z (bit_xor a b / 128 % 2 * 27)) (xor_mod (a * 2) (b * 2) 8)
      ∙ ap (λ z. bit_xor (bit_xor (a * 2 % 256) (b * 2 % 256)) (z % 2 * 27)) (xor_shr a b 7)
      ∙ ap (λ z. bit_xor (bit_xor (a * 2 % 256) (b * 2 % 256)) (z * 27)) (xor_mod (a / 128) (b / 128) 1)
      ∙ ap (bit_xor (bit_xor (a * 2 % 256) (b * 2 % 256))) (bit_times (a / 128 % 2) (b / 128 % 2) 27 (omega arith) (omega arith))
      ∙ interchange (a * 2 % 256) (b * 2 % 256) (a / 128 % 2 * 27) (b / 128 % 2 * 27);
}

doubled_table : every 8 (λ i. nat_eq (doubled (2 ^ i)) (byte_product (2 ^ i) 2)) ≡ true
unfolding every total coefficient polynomial_product remainder byte_product doubled
doubled_table = refl

pub byte_product-two : (a : ℕ) → a < 256 → bit_xor (a * 2 % 256) (a / 128 * 27) ≡ byte_product a 2
unfolding doubled
byte_product-two a h =
    ap (λ z. bit_xor (a * 2 % 256) (z * 27)) (let e : a / 128 ≡ a / 128 % 2 = omega arith in e)
    ∙ from_basis 8 doubled (λ x. byte_product x 2) linear_doubled (linear_left 2) (λ i hi. eqb-true _ _ (every_at 8 (λ i. nat_eq (doubled (2 ^ i)) (byte_product (2 ^ i) 2)) i doubled_table hi)) a h

shift_table : every 8 (λ i. every 7 (λ j. nat_eq (byte_product (2 ^ i) (2 ^ j * 2)) (byte_product (byte_product (2 ^ i) 2) (2 ^ j)))) ≡ true
unfolding every total coefficient polynomial_product remainder byte_product
shift_table = refl

-- z goes from one operand to the other
shift_over : (a b : ℕ) → a < 256 → b < 128 → byte_product a (b * 2) ≡ byte_product (byte_product a 2) b
shift_over a b ha hb =
    from_basis 8 (λ x. byte_product x (b * 2)) (λ x. byte_product (byte_product x 2) b) (linear_left (b * 2))
    (record { keeps = λ x y. ap (λ z. byte_product z b) (byte_product-xor_left x y 2) ∙ byte_product-xor_left (byte_product x 2) (byte_product y 2) b })
    (λ i hi. from_basis 7 (λ y. byte_product (2 ^ i) (y * 2)) (byte_product (byte_product (2 ^ i) 2))
    (record { keeps = λ x y. ap (byte_product (2 ^ i)) (times_two-xor x y) ∙ byte_product-xor_right (2 ^ i) (x * 2) (y * 2) })
    (linear_right (byte_product (2 ^ i) 2))
    (λ j hj. eqb-true _ _ (every_at 7 (λ j. nat_eq (byte_product (2 ^ i) (2 ^ j * 2)) (byte_product (byte_product (2 ^ i) 2) (2 ^ j))) j
    (every_at 8 (λ i. every 7 (λ j. nat_eq (byte_product (2 ^ i) (2 ^ j * 2)) (byte_product (byte_product (2 ^ i) 2) (2 ^ j)))) i shift_table hi) hj)) b hb) a ha

by_bit : (a r : ℕ) → a < 256 → r < 2 → byte_product a r ≡ r * a
by_bit a zero h k = byte_product-zero_right a ∙ sym (zero-mul a)
by_bit a (suc zero) h k = byte_product-one_right a h ∙ sym (one-mul a)
by_bit a (suc (suc r)) h k = absurd (omega arith)

-- the lowest bit of an operand, and its others
pub byte_product-step : (a b : ℕ) → a < 256 → b < 256 → byte_product a b ≡ bit_xor (b % 2 * a) (byte_product (byte_product a 2) (b / 2))
byte_product-step a b ha hb =
    let split : bit_xor (b / 2 * 2) (b % 2) ≡ b = xor_shifted (b / 2) 1 (b % 2) (omega arith) ∙ omega arith in
    ap (byte_product a) (sym split) ∙ byte_product-xor_right a (b / 2 * 2) (b % 2)
    ∙ ap₂ bit_xor (shift_over a (b / 2) ha (omega arith)) (by_bit a (b % 2) ha (omega arith))
    ∙ xor_comm (byte_product (byte_product a 2) (b / 2)) (b % 2 * a)

commuting : every 8 (λ i. every 8 (λ j. nat_eq (byte_product (2 ^ i) (2 ^ j)) (byte_product (2 ^ j) (2 ^ i)))) ≡ true
unfolding every total coefficient polynomial_product remainder byte_product
commuting = refl

bytes_commute : (a b : ℕ) → a < 2 ^ 8 → b < 2 ^ 8 → byte_product a b ≡ byte_product b a
bytes_commute a b ha hb =
    from_basis 8 (λ x. byte_product x b) (byte_product b) (linear_left b) (linear_right b)
    (λ i hi. from_basis 8 (byte_product (2 ^ i)) (λ y. byte_product y (2 ^ i)) (linear_right (2 ^ i)) (linear_left (2 ^ i))
    (λ j hj. eqb-true _ _ (every_at 8 (λ j. nat_eq (byte_product (2 ^ i) (2 ^ j)) (byte_product (2 ^ j) (2 ^ i))) j
    (every_at 8 (λ i. every 8 (λ j. nat_eq (byte_product (2 ^ i) (2 ^ j)) (byte_product (2 ^ j) (2 ^ i)))) i commuting hi) hj)) b hb) a ha

pub byte_product-comm : (a b : ℕ) → byte_product a b ≡ byte_product b a
byte_product-comm a b =
    byte_product-bytes a b ∙ bytes_commute (a % 256) (b % 256) (byte a) (byte b) ∙ sym (byte_product-bytes b a)

-- a factor goes into a sum
pub byte_product-total : (n a : ℕ) (f : ℕ → ℕ) → byte_product a (total n f) ≡ total n (λ c. byte_product a (f c))
unfolding total
byte_product-total zero a f = byte_product-zero_right a
byte_product-total (suc n) a f =
    byte_product-xor_right a (total n f) (f n) ∙ ap (λ z. bit_xor z (byte_product a (f n))) (byte_product-total n a f)

-- the coefficients of a quotient, with its top one
with_top : ℕ → ℕ → (ℕ → ℕ) → ℕ → ℕ
with_top n top q i = if nat_eq i n then top else q i

chosen : (b : Bool) (x y : ℕ) → x < 2 → y < 2 → (if b then x else y) < 2
chosen true x y hx hy = hx
chosen false x y hx hy = hy

with_top-below : (n top : ℕ) (q : ℕ → ℕ) → top < 2 → ((i : ℕ) → q i < 2) → (i : ℕ) → with_top n top q i < 2
unfolding with_top
with_top-below n top q h k i = chosen (nat_eq i n) top (q i) h (k i)

with_top-same : (n top : ℕ) (q : ℕ → ℕ) → with_top n top q n ≡ top
unfolding with_top
with_top-same n top q = ap (λ (b : Bool). if b then top else q n) (equal n)
  where
    equal : (n : ℕ) → nat_eq n n ≡ true
    equal n = grind (arith, nat_tests)

with_top-other : (n top : ℕ) (q : ℕ → ℕ) (i : ℕ) → i < n → with_top n top q i ≡ q i
unfolding with_top
with_top-other n top q i lt = ap (λ (b : Bool). if b then top else q i) (unequal i n lt)
  where
    unequal : (i n : ℕ) → i < n → nat_eq i n ≡ false
    unequal i n lt = grind (arith, nat_tests)

-- what division takes away is a sum of multiples of the modulus
divided : (n p : ℕ) → (q : ℕ → ℕ) × ((i : ℕ) → q i < 2) × (p ≡ bit_xor (total n (λ i. q i * (modulus * 2 ^ i))) (remainder n p))
unfolding remainder total
divided zero p = ((λ i. 0), (λ i. lit< tt), sym (xor_zero_l p))
divided (suc n) p =
    let top : ℕ = coefficient p (8 + n) in
    let rest = divided n (bit_xor p (top * (modulus * 2 ^ n))) in (
      with_top n top rest.0,
      with_top-below n top rest.0 (coefficient-below p (8 + n)) rest.1,
      sym (xor_cancel p (top * (modulus * 2 ^ n)))
          ∙ ap (λ z. bit_xor z (top * (modulus * 2 ^ n))) rest.2
          ∙ xor_assoc (total n (λ i. rest.0 i * (modulus * 2 ^ i))) (remainder n (bit_xor p (top * (modulus * 2 ^ n)))) (top * (modulus * 2 ^ n))
          ∙ ap (bit_xor (total n (λ i. rest.0 i * (modulus * 2 ^ i)))) (xor_comm (remainder n (bit_xor p (top * (modulus * 2 ^ n)))) (top * (modulus * 2 ^ n)))
          ∙ sym (xor_assoc (total n (λ i. rest.0 i * (modulus * 2 ^ i))) (top * (modulus * 2 ^ n)) (remainder n (bit_xor p (top * (modulus * 2 ^ n)))))
          ∙ ap (λ z. bit_xor z (remainder n (bit_xor p (top * (modulus * 2 ^ n)))))
          (ap₂ bit_xor (total_same n _ _ (λ i lt. ap (λ z. z * (modulus * 2 ^ i)) (sym (with_top-other n top rest.0 i lt))))
          (ap (λ z. z * (modulus * 2 ^ n)) (sym (with_top-same n top rest.0)))),
    )

is_remainder : (a b : ℕ) → (q : ℕ → ℕ) × ((i : ℕ) → q i < 2)
    × (polynomial_product a b ≡ bit_xor (total 7 (λ i. q i * (modulus * 2 ^ i))) (byte_product a b))
unfolding byte_product
is_remainder a b = divided 7 (polynomial_product a b)

pub product_laws : ProductLaws
product_laws = record {
  is_byte = byte_product-below;
  is_remainder = is_remainder;
  commutes = byte_product-comm;
  linear = byte_product-xor_right;
  zero = byte_product-zero_right;
  one = byte_product-one_right;
}
