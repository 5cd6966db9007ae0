-- The laws of the field. Those on two or three elements are computed for single bits, and hold of
-- all by linearity; the inverses are computed for each of the 255 elements.
use Rattle.std.proofs.Common.{◌≡◌, ◌⊎◌, inl, inr, ℕ, zero, suc, ◌+◌, ◌%◌, ◌^◌, ◌<◌, true, nat_eq, refl, sym, ap, ap₂, ◌∙◌, arith}
use Rattle.std.proofs.lemmas.Bool.{eqb-true}
use Rattle.pot_bytes.specs.Totals.{total}
use Rattle.pot_bytes.specs.Product.{coefficient, polynomial_product, remainder, byte_product}
use Rattle.pot_bytes.proofs.Basis.{every, every_at, from_basis}
use Rattle.pot_bytes.proofs.ProductLemmas.{byte_product-xor_left, byte_product-xor_right, byte_product-bytes, byte_product-comm, byte_product-below, byte_product-zero_left, byte_product-zero_right, byte_product-one_left, byte_product-one_right, linear_left, linear_right, byte}
use Rattle.pot_gf.specs.Field.{power, inverse, FieldLaws}

associating : every 8 (λ i. every 8 (λ j. every 8 (λ k. nat_eq (byte_product (byte_product (2 ^ i) (2 ^ j)) (2 ^ k)) (byte_product (2 ^ i) (byte_product (2 ^ j) (2 ^ k)))))) ≡ true
unfolding every total coefficient polynomial_product remainder byte_product
associating = refl

bytes_associate : (a b c : ℕ) → a < 2 ^ 8 → b < 2 ^ 8 → c < 2 ^ 8 → byte_product (byte_product a b) c ≡ byte_product a (byte_product b c)
bytes_associate a b c ha hb hc =
    from_basis 8 (λ x. byte_product (byte_product x b) c) (λ x. byte_product x (byte_product b c))
    (record { keeps = λ x y. ap (λ z. byte_product z c) (byte_product-xor_left x y b) ∙ byte_product-xor_left (byte_product x b) (byte_product y b) c })
    (linear_left (byte_product b c))
    (λ i hi. from_basis 8 (λ x. byte_product (byte_product (2 ^ i) x) c) (λ x. byte_product (2 ^ i) (byte_product x c))
    (record { keeps = λ x y. ap (λ z. byte_product z c) (byte_product-xor_right (2 ^ i) x y) ∙ byte_product-xor_left (byte_product (2 ^ i) x) (byte_product (2 ^ i) y) c })
    (record { keeps = λ x y. ap (byte_product (2 ^ i)) (byte_product-xor_left x y c) ∙ byte_product-xor_right (2 ^ i) (byte_product x c) (byte_product y c) })
    (λ j hj. from_basis 8 (byte_product (byte_product (2 ^ i) (2 ^ j))) (λ x. byte_product (2 ^ i) (byte_product (2 ^ j) x))
    (linear_right (byte_product (2 ^ i) (2 ^ j)))
    (record { keeps = λ x y. ap (byte_product (2 ^ i)) (byte_product-xor_right (2 ^ j) x y) ∙ byte_product-xor_right (2 ^ i) (byte_product (2 ^ j) x) (byte_product (2 ^ j) y) })
    (λ k hk. eqb-true _ _ (every_at 8 (λ k. nat_eq (byte_product (byte_product (2 ^ i) (2 ^ j)) (2 ^ k)) (byte_product (2 ^ i) (byte_product (2 ^ j) (2 ^ k)))) k
    (every_at 8 (λ j. every 8 (λ k. nat_eq (byte_product (byte_product (2 ^ i) (2 ^ j)) (2 ^ k)) (byte_product (2 ^ i) (byte_product (2 ^ j) (2 ^ k))))) j
    (every_at 8 (λ i. every 8 (λ j. every 8 (λ k. nat_eq (byte_product (byte_product (2 ^ i) (2 ^ j)) (2 ^ k)) (byte_product (2 ^ i) (byte_product (2 ^ j) (2 ^ k)))))) i associating hi) hj) hk)) c hc) b hb) a ha

-- the lowest eight bits of one operand
byte_of_right : (a b : ℕ) → byte_product a b ≡ byte_product a (b % 256)
byte_of_right a b =
    byte_product-bytes a b ∙ ap (byte_product (a % 256)) (let e : b % 256 ≡ b % 256 % 256 = omega arith in e) ∙ sym (byte_product-bytes a (b % 256))

byte_of_left : (a b : ℕ) → byte_product a b ≡ byte_product (a % 256) b
byte_of_left a b = byte_product-comm a b ∙ byte_of_right b a ∙ byte_product-comm b (a % 256)

pub byte_product-assoc : (a b c : ℕ) → byte_product (byte_product a b) c ≡ byte_product a (byte_product b c)
byte_product-assoc a b c =
    ap₂ byte_product (byte_product-bytes a b) refl ∙ byte_of_right (byte_product (a % 256) (b % 256)) c
    ∙ bytes_associate (a % 256) (b % 256) (c % 256) (byte a) (byte b) (byte c)
    ∙ ap (byte_product (a % 256)) (sym (byte_product-bytes b c)) ∙ sym (byte_of_left a (byte_product b c))

pub power-sum : (a m n : ℕ) → power a (m + n) ≡ byte_product (power a m) (power a n)
unfolding power
power-sum a zero n = ap (power a) (omega arith) ∙ sym (byte_product-one_left (power a n) (power-below a n))
  where
    power-below : (a n : ℕ) → power a n < 256
    power-below a zero = omega arith
    power-below a (suc n) = byte_product-below a (power a n)
power-sum a (suc m) n =
    ap (power a) (let e : suc m + n ≡ suc (m + n) = omega arith in e)
    ∙ ap (byte_product a) (power-sum a m n) ∙ sym (byte_product-assoc a (power a m) (power a n))

-- squares, and the product of all but the first: after n steps from a and 1 it is a^(2^(n + 1) - 2)
pub chain : ℕ → ℕ → ℕ → ℕ
chain zero square product = product
chain (suc n) square product = chain n (byte_product square square) (byte_product product (byte_product square square))

pub chain-suc : (n square product : ℕ) → chain (suc n) square product ≡ chain n (byte_product square square) (byte_product product (byte_product square square))
unfolding chain
chain-suc n square product = refl

pub chain-zero : (square product : ℕ) → chain 0 square product ≡ product
unfolding chain
chain-zero square product = refl

chain_step : (n a s i : ℕ) → chain (suc n) (power a s) (power a i) ≡ chain n (power a (s + s)) (power a (i + (s + s)))
unfolding chain
chain_step n a s i =
    ap₂ (chain n) (sym (power-sum a s s)) (ap (byte_product (power a i)) (sym (power-sum a s s)) ∙ sym (power-sum a i (s + s)))

pub chain-inverse : (a : ℕ) → a < 256 → chain 7 a 1 ≡ inverse a
unfolding power inverse chain
chain-inverse a h =
    ap (λ z. chain 7 z 1) (sym (byte_product-one_right a h))
    ∙ chain_step 6 a 1 0 ∙ chain_step 5 a 2 2 ∙ chain_step 4 a 4 6 ∙ chain_step 3 a 8 14 ∙ chain_step 2 a 16 30 ∙ chain_step 1 a 32 62 ∙ chain_step 0 a 64 126

inverting : every 255 (λ a. nat_eq (byte_product (suc a) (chain 7 (suc a) 1)) 1) ≡ true
unfolding every total coefficient polynomial_product remainder byte_product chain
inverting = refl

pub byte_product-inverse : (a : ℕ) → 0 < a → a < 256 → byte_product a (inverse a) ≡ 1
byte_product-inverse zero h k = absurd (omega arith)
byte_product-inverse (suc a) h k =
    ap (byte_product (suc a)) (sym (chain-inverse (suc a) k))
    ∙ eqb-true _ _ (every_at 255 (λ a. nat_eq (byte_product (suc a) (chain 7 (suc a) 1)) 1) a inverting (omega arith))

-- a factor that is not 0 goes away
pub byte_product-cancel : (a b : ℕ) → 0 < a → a < 256 → b < 256 → byte_product a b ≡ 0 → b ≡ 0
byte_product-cancel a b pa ha hb e =
    sym (byte_product-one_left b hb)
    ∙ ap (λ z. byte_product z b) (sym (byte_product-inverse a pa ha) ∙ byte_product-comm a (inverse a))
    ∙ byte_product-assoc (inverse a) a b ∙ ap (byte_product (inverse a)) e ∙ byte_product-zero_right (inverse a)

pub no_zero_divisors : (a b : ℕ) → a < 256 → b < 256 → byte_product a b ≡ 0 → (a ≡ 0) ⊎ (b ≡ 0)
no_zero_divisors zero b ha hb e = inl refl
no_zero_divisors (suc a) b ha hb e = inr (byte_product-cancel (suc a) b (omega arith) ha hb e)

pub field_laws : FieldLaws
field_laws = record {
  is_byte = byte_product-below;
  commutes = byte_product-comm;
  associates = byte_product-assoc;
  distributes = byte_product-xor_right;
  one = byte_product-one_left;
  zero_times = byte_product-zero_left;
  has_inverse = byte_product-inverse;
  no_zero_divisors = no_zero_divisors;
}
