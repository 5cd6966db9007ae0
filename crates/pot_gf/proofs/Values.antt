-- The value of a polynomial: Horner's form, and linearity.
use Rattle.std.proofs.Common.{◌≡◌, ◌⊎◌, inl, inr, ℕ, zero, suc, ◌+◌, ◌-◌, ◌<◌, ◌≤◌, bit_xor, List, [], ◌∷◌, length, get_or, refl, sym, ap, ap₂, ◌∙◌, arith, lit<}
use Rattle.std.specs.Int.Bits.{xor_zero_r, xor_zero_l, xor_self}
use Rattle.pot_bytes.specs.Lists.{AreBytes}
use Rattle.pot_bytes.specs.Totals.{total}
use Rattle.pot_bytes.specs.Product.{byte_product}
use Rattle.pot_bytes.specs.Sums.{xor}
use Rattle.pot_bytes.specs.Weighted.{scaled}
use Rattle.pot_bytes.proofs.TotalLemmas.{interchange, total_same, total_first, total_more, total_below}
use Rattle.pot_bytes.proofs.ProductLemmas.{byte_product-xor_left, byte_product-xor_right, byte_product-zero_left, byte_product-zero_right, byte_product-one_right, byte_product-comm, byte_product-below, byte_product-total}
use Rattle.pot_gf.specs.Field.{power}
use Rattle.pot_gf.specs.Polynomials.{value, IsBelowDegree, IsSame}
use Rattle.pot_gf.proofs.FieldLemmas.{byte_product-assoc}

-- factors in another order
pub byte_product-swap : (a b c : ℕ) → byte_product a (byte_product b c) ≡ byte_product b (byte_product a c)
byte_product-swap a b c =
    sym (byte_product-assoc a b c) ∙ ap (λ z. byte_product z c) (byte_product-comm a b) ∙ byte_product-assoc b a c

-- the terms of a polynomial
term : List ℕ → ℕ → ℕ → ℕ
term p x t = byte_product (get_or p t 0) (power x t)

value-total : (p : List ℕ) (x : ℕ) → value p x ≡ total (length p) (term p x)
unfolding value term
value-total p x = refl

pub value-nil : (x : ℕ) → value [] x ≡ 0
unfolding value total
value-nil x = refl

-- Horner's form
pub value-cons : (c : ℕ) (p : List ℕ) (x : ℕ) → value (c ∷ p) x ≡ bit_xor (byte_product c 1) (byte_product x (value p x))
unfolding value power
value-cons c p x =
    total_first (length p) (λ t. byte_product (get_or (c ∷ p) t 0) (power x t))
    ∙ ap (bit_xor (byte_product c 1)) (total_same (length p) _ _ (λ t lt. byte_product-swap (get_or p t 0) x (power x t))
    ∙ sym (byte_product-total (length p) x (λ t. byte_product (get_or p t 0) (power x t))))

pub value-below : (p : List ℕ) (x : ℕ) → value p x < 256
unfolding value
value-below p x = total_below 8 (length p) _ (lit< tt) (λ t lt. byte_product-below (get_or p t 0) (power x t))

pub get_or-end : (p : List ℕ) (t : ℕ) → length p ≤ t → get_or p t 0 ≡ 0
get_or-end [] t h = refl
get_or-end (c ∷ p) zero h = absurd (omega arith)
get_or-end (c ∷ p) (suc t) h = get_or-end p t (omega arith)

-- the value is a sum over any range that has all coefficients
value-range : (n : ℕ) (p : List ℕ) (x : ℕ) → IsBelowDegree n p → length p ≤ n ⊎ n ≤ length p → value p x ≡ total n (term p x)
unfolding term
value-range n p x h (inl le) =
    value-total p x
    ∙ sym (total_more (length p) (n - length p) (term p x) (λ t l. ap (λ z. byte_product z (power x t)) (get_or-end p t l) ∙ byte_product-zero_left (power x t)))
    ∙ ap (λ z. total z (term p x)) (let e : n - length p + length p ≡ n = omega arith in e)
value-range n p x h (inr le) =
    value-total p x
    ∙ ap (λ z. total z (term p x)) (let e : length p ≡ length p - n + n = omega arith in e)
    ∙ total_more n (length p - n) (term p x) (λ t l. ap (λ z. byte_product z (power x t)) (h t l) ∙ byte_product-zero_left (power x t))

either_order : (m n : ℕ) → m ≤ n ⊎ n ≤ m
either_order m n = grind arith

value-to : (n : ℕ) (p : List ℕ) (x : ℕ) → IsBelowDegree n p → value p x ≡ total n (term p x)
value-to n p x h = value-range n p x h (either_order (length p) n)

-- only the coefficients count
pub value-same : (p q : List ℕ) (x : ℕ) → IsSame p q → value p x ≡ value q x
unfolding term
value-same p q x h =
    value-to (length p) p x (get_or-end p)
    ∙ total_same (length p) (term p x) (term q x) (λ t lt. ap (λ z. byte_product z (power x t)) (h t))
    ∙ sym (value-to (length p) q x (λ t l. sym (h t) ∙ get_or-end p t l))

pub value-xor : (p q : List ℕ) (x : ℕ) → length p ≡ length q → value (xor p q) x ≡ bit_xor (value p x) (value q x)
value-xor [] [] x e = value-nil x ∙ sym (ap₂ bit_xor (value-nil x) (value-nil x) ∙ xor_self 0)
value-xor [] (d ∷ q) x e = absurd (omega arith)
value-xor (c ∷ p) [] x e = absurd (omega arith)
value-xor (c ∷ p) (d ∷ q) x e =
    value-cons (bit_xor c d) (xor p q) x
    ∙ ap₂ bit_xor (byte_product-xor_left c d 1) (ap (byte_product x) (value-xor p q x (omega arith)) ∙ byte_product-xor_right x (value p x) (value q x))
    ∙ interchange (byte_product c 1) (byte_product d 1) (byte_product x (value p x)) (byte_product x (value q x))
    ∙ sym (ap₂ bit_xor (value-cons c p x) (value-cons d q x))

pub value-scaled : (w : ℕ) (p : List ℕ) (x : ℕ) → value (scaled w p) x ≡ byte_product w (value p x)
value-scaled w [] x = value-nil x ∙ sym (ap (byte_product w) (value-nil x) ∙ byte_product-zero_right w)
value-scaled w (c ∷ p) x =
    value-cons (byte_product w c) (scaled w p) x
    ∙ ap₂ bit_xor (byte_product-assoc w c 1) (ap (byte_product x) (value-scaled w p x) ∙ byte_product-swap x w (value p x))
    ∙ sym (byte_product-xor_right w (byte_product c 1) (byte_product x (value p x)))
    ∙ ap (byte_product w) (sym (value-cons c p x))

-- the value at 0 is the constant term
pub value-at_zero : (p : List ℕ) → AreBytes p → value p 0 ≡ get_or p 0 0
value-at_zero [] h = value-nil 0
value-at_zero (c ∷ p) h =
    value-cons c p 0 ∙ ap₂ bit_xor (byte_product-one_right c (h 0)) (byte_product-zero_left (value p 0)) ∙ xor_zero_r c

-- a polynomial without coefficients but 0
pub value-zero : (p : List ℕ) (x : ℕ) → IsBelowDegree 0 p → value p x ≡ 0
unfolding total
value-zero p x h = value-to 0 p x h

-- the sum of two polynomials of any lengths
pub added : List ℕ → List ℕ → List ℕ
added [] q = q
added (c ∷ p) [] = c ∷ p
added (c ∷ p) (d ∷ q) = bit_xor c d ∷ added p q

pub get_or-added : (p q : List ℕ) (t : ℕ) → get_or (added p q) t 0 ≡ bit_xor (get_or p t 0) (get_or q t 0)
unfolding added
get_or-added [] q t = sym (xor_zero_l (get_or q t 0))
get_or-added (c ∷ p) [] t = sym (xor_zero_r (get_or (c ∷ p) t 0))
get_or-added (c ∷ p) (d ∷ q) zero = refl
get_or-added (c ∷ p) (d ∷ q) (suc t) = get_or-added p q t

pub value-added : (p q : List ℕ) (x : ℕ) → value (added p q) x ≡ bit_xor (value p x) (value q x)
unfolding added
value-added [] q x = sym (ap (λ z. bit_xor z (value q x)) (value-nil x) ∙ xor_zero_l (value q x))
value-added (c ∷ p) [] x = sym (ap (bit_xor (value (c ∷ p) x)) (value-nil x) ∙ xor_zero_r (value (c ∷ p) x))
value-added (c ∷ p) (d ∷ q) x =
    value-cons (bit_xor c d) (added p q) x
    ∙ ap₂ bit_xor (byte_product-xor_left c d 1) (ap (byte_product x) (value-added p q x) ∙ byte_product-xor_right x (value p x) (value q x))
    ∙ interchange (byte_product c 1) (byte_product d 1) (byte_product x (value p x)) (byte_product x (value q x))
    ∙ sym (ap₂ bit_xor (value-cons c p x) (value-cons d q x))
