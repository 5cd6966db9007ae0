-- A linear map is known by what it makes of single bits. Finite tests of these are computed.
use Rattle.std.proofs.Common.{◌≡◌, ℕ, zero, suc, ◌*◌, ◌/◌, ◌%◌, ◌^◌, ◌<◌, bit_xor, Bool, true, ◌&&◌, nat_lt, sym, ap, ◌∙◌, arith, inl, inr, ◌⊎◌, subst}
use native.Mathlib.Nat.{zero-mul, one-mul, div-lt_iff_lt-mul, pow-succ'}
use Rattle.std.specs.Int.Bits.{xor_self}
use Rattle.std.proofs.lemmas.Nat.{xor_lt, pow_pos}
use Rattle.std.proofs.lemmas.Bool.Decides.{nat_tests}
use lib.Bits.{xor_shifted}
use Rattle.std.proofs.lemmas.Bool.{and_parts}

-- the test holds of every number below `n`
unfoldable pub every : ℕ → (ℕ → Bool) → Bool
every zero p = true
every (suc n) p = p n && every n p

pub last_or : (k n : ℕ) → k < suc n → (k ≡ n) ⊎ (k < n)
last_or k n lt = grind arith

pub every_at : (n : ℕ) (p : ℕ → Bool) (k : ℕ) → every n p ≡ true → k < n → p k ≡ true
unfolding every
every_at zero p k h lt = absurd (omega arith)
every_at (suc n) p k h lt =
    elim (last_or k n lt) [ inl e ↦ ap p e ∙ (and_parts (p n) (every n p) h).0 | inr l ↦ every_at n p k (and_parts (p n) (every n p) h).1 l ]

pub less : (a b : ℕ) → nat_lt a b ≡ true → a < b
less a b h = grind (arith, nat_tests)

-- a map that keeps XOR
pub record IsLinear (f : ℕ → ℕ) : Type 0 where
  pub keeps : (a b : ℕ) → f (bit_xor a b) ≡ bit_xor (f a) (f b)

pub linear_zero : (f : ℕ → ℕ) → IsLinear f → f 0 ≡ 0
linear_zero f l = ap f (sym (xor_self 0)) ∙ l.keeps 0 0 ∙ xor_self (f 0)

-- a number below 2 ^ (n + 1) is its top bit and the rest
split_top : (n a : ℕ) → a < 2 ^ suc n → (a / 2 ^ n < 2) × (a % 2 ^ n < 2 ^ n) × (bit_xor (a / 2 ^ n * 2 ^ n) (a % 2 ^ n) ≡ a)
split_top n a lt =
    let low : a % 2 ^ n < 2 ^ n = omega (arith, pow_pos n) in
    let top : a / 2 ^ n < 2 = (div-lt_iff_lt-mul (pow_pos n)).1 (omega (arith, pow-succ' 2 n)) in
    (top, low, xor_shifted (a / 2 ^ n) n (a % 2 ^ n) low ∙ omega arith)

bit_of : (f g : ℕ → ℕ) (r p : ℕ) → f 0 ≡ g 0 → f p ≡ g p → r < 2 → f (r * p) ≡ g (r * p)
bit_of f g zero p z e h = simp zero-mul z
bit_of f g (suc zero) p z e h = simp one-mul e
bit_of f g (suc (suc r)) p z e h = absurd (omega arith)

-- two linear maps that are the same at the powers of 2 are the same
pub from_basis : (n : ℕ) (f g : ℕ → ℕ) → IsLinear f → IsLinear g → ((i : ℕ) → i < n → f (2 ^ i) ≡ g (2 ^ i)) → (a : ℕ) → a < 2 ^ n → f a ≡ g a
from_basis zero f g lf lg h a lt =
    let e : a ≡ 0 = omega arith in ap f e ∙ linear_zero f lf ∙ sym (linear_zero g lg) ∙ ap g (sym e)
from_basis (suc n) f g lf lg h a lt =
    let s = split_top n a lt in
    ap f (sym s.2) ∙ lf.keeps (a / 2 ^ n * 2 ^ n) (a % 2 ^ n)
    ∙ ap (λ z. bit_xor z (f (a % 2 ^ n))) (bit_of f g (a / 2 ^ n) (2 ^ n) (linear_zero f lf ∙ sym (linear_zero g lg)) (h n (omega arith)) s.0)
    ∙ ap (bit_xor (g (a / 2 ^ n * 2 ^ n))) (from_basis n f g lf lg (λ i l. h i (omega arith)) (a % 2 ^ n) s.1)
    ∙ sym (lg.keeps (a / 2 ^ n * 2 ^ n) (a % 2 ^ n)) ∙ ap g s.2

bit_below : (f : ℕ → ℕ) (k r p : ℕ) → f 0 ≡ 0 → f p < 2 ^ k → r < 2 → f (r * p) < 2 ^ k
bit_below f k zero p z h lt = simp zero-mul (rw z (pow_pos k))
bit_below f k (suc zero) p z h lt = simp one-mul h
bit_below f k (suc (suc r)) p z h lt = absurd (omega arith)

-- a linear map that is below 2 ^ k at the powers of 2 is so everywhere
pub below_from_basis : (n k : ℕ) (f : ℕ → ℕ) → IsLinear f → ((i : ℕ) → i < n → f (2 ^ i) < 2 ^ k) → (a : ℕ) → a < 2 ^ n → f a < 2 ^ k
below_from_basis zero k f l h a lt =
    let e : f a ≡ 0 = ap f (let z : a ≡ 0 = omega arith in z) ∙ linear_zero f l in omega (arith, pow_pos k)
below_from_basis (suc n) k f l h a lt =
    let s = split_top n a lt in
    subst (λ z. f z < 2 ^ k) s.2 (rw l.keeps (xor_lt k (f (a / 2 ^ n * 2 ^ n)) (f (a % 2 ^ n))
    (bit_below f k (a / 2 ^ n) (2 ^ n) (linear_zero f l) (h n (omega arith)) s.0)
    (below_from_basis n k f l (λ i l. h i (omega arith)) (a % 2 ^ n) s.1)))
