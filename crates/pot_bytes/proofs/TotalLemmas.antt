-- Laws of sums by XOR.
use Rattle.std.proofs.Common.{◌+◌, ◌≢◌, inl, inr, ◌≤◌, ◌≡◌, ℕ, zero, suc, ◌^◌, ◌<◌, bit_xor, refl, sym, ap, ◌∙◌, arith}
use Rattle.std.specs.Int.Bits.{xor_assoc, xor_self, xor_zero_r, xor_zero_l}
use Rattle.std.proofs.lemmas.Nat.{xor_comm, xor_lt}
use Rattle.pot_bytes.specs.Totals.{total}
use Rattle.pot_bytes.proofs.Basis.{last_or}

-- four terms, the middle two changed over
pub interchange : (p q r s : ℕ) → bit_xor (bit_xor p q) (bit_xor r s) ≡ bit_xor (bit_xor p r) (bit_xor q s)
interchange p q r s =
    xor_assoc p q (bit_xor r s)
    ∙ ap (bit_xor p) (sym (xor_assoc q r s) ∙ ap (λ z. bit_xor z s) (xor_comm q r) ∙ xor_assoc r q s)
    ∙ sym (xor_assoc p r (bit_xor q s))

pub xor_cancel : (a b : ℕ) → bit_xor (bit_xor a b) b ≡ a
xor_cancel a b = xor_assoc a b b ∙ ap (bit_xor a) (xor_self b) ∙ xor_zero_r a

pub xor_cancel_left : (a b : ℕ) → bit_xor a (bit_xor a b) ≡ b
xor_cancel_left a b = sym (xor_assoc a a b) ∙ ap (λ z. bit_xor z b) (xor_self a) ∙ xor_zero_l b

-- two numbers whose XOR is zero are the same
pub from_zero : (a b : ℕ) → bit_xor a b ≡ 0 → a ≡ b
from_zero a b h = sym (xor_cancel a b) ∙ ap (λ z. bit_xor z b) h ∙ xor_zero_l b

pub total_same : (n : ℕ) (f g : ℕ → ℕ) → ((c : ℕ) → c < n → f c ≡ g c) → total n f ≡ total n g
unfolding total
total_same zero f g h = refl
total_same (suc n) f g h =
    ap (λ z. bit_xor z (f n)) (total_same n f g (λ c l. h c (omega arith))) ∙ ap (bit_xor (total n g)) (h n (omega arith))

pub total_xor : (n : ℕ) (f g : ℕ → ℕ) → total n (λ c. bit_xor (f c) (g c)) ≡ bit_xor (total n f) (total n g)
unfolding total
total_xor zero f g = refl
total_xor (suc n) f g =
    ap (λ z. bit_xor z (bit_xor (f n) (g n))) (total_xor n f g) ∙ interchange (total n f) (total n g) (f n) (g n)

-- a sum of bytes is a byte
pub total_below : (k n : ℕ) (f : ℕ → ℕ) → 0 < 2 ^ k → ((c : ℕ) → c < n → f c < 2 ^ k) → total n f < 2 ^ k
unfolding total
total_below k zero f p h = p
total_below k (suc n) f p h =
    xor_lt k (total n f) (f n) (total_below k n f p (λ c l. h c (omega arith))) (h n (omega arith))

pub total_zero : (n : ℕ) (f : ℕ → ℕ) → ((c : ℕ) → c < n → f c ≡ 0) → total n f ≡ 0
unfolding total
total_zero zero f h = refl
total_zero (suc n) f h = ap (λ z. bit_xor z (f n)) (total_zero n f (λ c l. h c (omega arith))) ∙ ap (bit_xor 0) (h n (omega arith))

-- the first number and the others
pub total_first : (n : ℕ) (f : ℕ → ℕ) → total (suc n) f ≡ bit_xor (f 0) (total n (λ c. f (suc c)))
unfolding total
total_first zero f = xor_comm 0 (f 0)
total_first (suc n) f =
    ap (λ z. bit_xor z (f (suc n))) (total_first n f) ∙ xor_assoc (f 0) (total n (λ c. f (suc c))) (f (suc n))

-- zeros behind the first `n` numbers add nothing
pub total_more : (n more : ℕ) (f : ℕ → ℕ) → ((c : ℕ) → n ≤ c → f c ≡ 0) → total (more + n) f ≡ total n f
unfolding total
total_more n zero f h = ap (λ z. total z f) (let e : 0 + n ≡ n = omega arith in e)
total_more n (suc more) f h =
    ap (λ z. total z f) (let e : suc more + n ≡ suc (more + n) = omega arith in e)
    ∙ ap (bit_xor (total (more + n) f)) (h (more + n) (omega arith)) ∙ xor_zero_r (total (more + n) f) ∙ total_more n more f h

-- all but one are zero
pub total_one : (n : ℕ) (f : ℕ → ℕ) (c : ℕ) → c < n → ((k : ℕ) → k < n → k ≢ c → f k ≡ 0) → total n f ≡ f c
unfolding total
total_one zero f c lt h = absurd (omega arith)
total_one (suc n) f c lt h = elim (last_or c n lt) [
  | inl e ↦ ap (λ z. bit_xor z (f n)) (total_zero n f (λ k l. h k (omega arith) (omega arith))) ∙ ap f (sym e)
  | inr l ↦ ap (bit_xor (total n f)) (h n (omega arith) (omega arith)) ∙ xor_zero_r (total n f) ∙ total_one n f c l (λ k m. h k (omega arith))
]

-- a change of one number
pub total_change : (n : ℕ) (f g : ℕ → ℕ) (c : ℕ) → c < n → ((k : ℕ) → k < n → k ≢ c → g k ≡ f k) → total n g ≡ bit_xor (total n f) (bit_xor (f c) (g c))
unfolding total
total_change n f g c lt h =
    sym (xor_cancel (total n g) (total n f)) ∙ xor_comm (bit_xor (total n g) (total n f)) (total n f)
    ∙ ap (bit_xor (total n f)) (sym (total_xor n g f)
    ∙ total_one n (λ k. bit_xor (g k) (f k)) c lt (λ k l ne. ap (λ z. bit_xor z (f k)) (h k l ne) ∙ xor_self (f k)) ∙ xor_comm (g c) (f c))
