-- Sums of which two terms change.
use Rattle.std.proofs.Common.{◌≡◌, ◌≢◌, inl, inr, ℕ, zero, suc, ◌<◌, bit_xor, sym, ap, ap₂, ◌∙◌, arith}
use Rattle.std.specs.Int.Bits.{xor_self, xor_zero_r}
use Rattle.std.proofs.lemmas.Nat.{xor_comm}
use Rattle.pot_bytes.specs.Totals.{total}
use Rattle.pot_bytes.proofs.TotalLemmas.{total_xor, total_one, xor_cancel}
use Rattle.pot_bytes.proofs.Basis.{last_or}

-- all but two are zero
total_two : (n : ℕ) (f : ℕ → ℕ) (c d : ℕ) → c < d → d < n → ((k : ℕ) → k < n → k ≢ c → k ≢ d → f k ≡ 0) → total n f ≡ bit_xor (f c) (f d)
unfolding total
total_two zero f c d l lt h = absurd (omega arith)
total_two (suc n) f c d l lt h = elim (last_or d n lt) [
  | inl e ↦ ap₂ bit_xor (total_one n f c (omega arith) (λ k m ne. h k (omega arith) ne (omega arith))) (ap f (sym e))
  | inr m ↦ ap (bit_xor (total n f)) (h n (omega arith) (omega arith) (omega arith)) ∙ xor_zero_r (total n f) ∙ total_two n f c d l m (λ k m. h k (omega arith))
]

-- two terms that change by the same leave a sum of zero
pub total_twice : (n : ℕ) (f g : ℕ → ℕ) (c d e : ℕ) → c < d → d < n → ((k : ℕ) → k < n → k ≢ c → k ≢ d → g k ≡ f k)
    → g c ≡ bit_xor (f c) e → g d ≡ bit_xor (f d) e → total n f ≡ 0 → total n g ≡ 0
total_twice n f g c d e l lt h gc gd z =
    sym (ap (bit_xor (total n g)) z ∙ xor_zero_r (total n g))
    ∙ sym (total_xor n g f)
    ∙ total_two n (λ k. bit_xor (g k) (f k)) c d l lt (λ k m a b. ap (λ z. bit_xor z (f k)) (h k m a b) ∙ xor_self (f k))
    ∙ ap₂ bit_xor (differs c gc) (differs d gd) ∙ xor_self e
  where
    differs : (k : ℕ) → g k ≡ bit_xor (f k) e → bit_xor (g k) (f k) ≡ e
    differs k eq = ap (λ z. bit_xor z (f k)) (eq ∙ xor_comm (f k) e) ∙ xor_cancel e (f k)
