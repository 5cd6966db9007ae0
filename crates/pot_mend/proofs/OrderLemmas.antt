-- Places in order.
use Rattle.std.proofs.Common.{◌≡◌, ◌<◌, ◌≤◌, ◌⊎◌, inl, inr, ⊎_elim, ℕ, ◌+◌, List, [], ◌∷◌, ◌++◌, arith}
use Rattle.pot_replies.specs.Jobs.{Precedes, PlacesAscendFrom, Ascend}

-- a place is at another or comes after it
abbrev pub AtOrAfter : ℕ × ℕ → ℕ × ℕ → Type 0
AtOrAfter p q = (p.0 < q.0) ⊎ ((p.0 ≡ q.0) × (p.1 ≤ q.1))

pub precedes_more : (p q r : ℕ × ℕ) → Precedes p q → AtOrAfter q r → Precedes p r
precedes_more p q r (inl a) (inl b) = inl (omega (arith, a, b))
precedes_more p q r (inl a) (inr b) = (let e = b.0 in inl (omega (arith, a, e)))
precedes_more p q r (inr a) (inl b) = (let e = a.0 in inl (omega (arith, e, b)))
precedes_more p q r (inr a) (inr b) = (let e = a.0 in let f = b.0 in let x = a.1 in let y = b.1 in inr (omega (arith, e, f), omega (arith, x, y)))

pub precedes_after : (p q : ℕ × ℕ) → Precedes p q → AtOrAfter p q
precedes_after p q (inl a) = inl a
precedes_after p q (inr a) = (let x = a.1 in inr (a.0, omega (arith, x)))

pub not_before : (p : ℕ × ℕ) → Precedes p p → ⊥
not_before p (inl a) = absurd (omega (arith, a))
not_before p (inr a) = (let x = a.1 in absurd (omega (arith, x)))

-- no place is before the first
pub none_before : (n k : ℕ) → Precedes (n, k) (0, 0) → ⊥
none_before n k (inl a) = absurd (omega (arith, a))
none_before n k (inr a) = (let x = a.1 in absurd (omega (arith, x)))

-- each place is before another, or at it or after it
pub before_or_after : (n k s c : ℕ) → Precedes (n, k) (s, c) ⊎ AtOrAfter (s, c) (n, k)
before_or_after n k s c = ⊎_elim
    (λ (lt : n < s). inl (inl lt))
    (λ (le : s ≤ n). ⊎_elim
    (λ (less : s < n). inr (inl less))
    (λ (most : n ≤ s). ⊎_elim
    (λ (low : k < c). inl (inr (omega (arith, le, most), low)))
    (λ (high : c ≤ k). inr (inr (omega (arith, le, most), high)))
    (below k c))
    (below s n))
    (below n s)
  where
    below : (a b : ℕ) → (a < b) ⊎ (b ≤ a)
    below a b = grind arith

-- a place before the next column is before this one or is it
pub before_next : (n k s c : ℕ) → Precedes (n, k) (s, c + 1) → Precedes (n, k) (s, c) ⊎ ((n ≡ s) × (k ≡ c))
before_next n k s c (inl a) = inl (inl a)
before_next n k s c (inr (e, lt)) = ⊎_elim
    (λ (low : k < c). inl (inr (e, low)))
    (λ (high : c ≤ k). inr (e, omega (arith, lt, high)))
    (below k c)
  where
    below : (a b : ℕ) → (a < b) ⊎ (b ≤ a)
    below a b = grind arith

-- LISTS OF PLACES THAT ASCEND

from_later : (p : ℕ × ℕ) (ps : List (ℕ × ℕ)) (q r : ℕ × ℕ) → PlacesAscendFrom p (ps ++ q ∷ []) → AtOrAfter q r → PlacesAscendFrom p (ps ++ r ∷ [])
from_later p [] q r h after = (precedes_more p q r h.0 after, tt)
from_later p (x ∷ ps) q r h after = (h.0, from_later x ps q r h.1 after)

-- the last of them may be a later one
pub ascend_later : (ps : List (ℕ × ℕ)) (q r : ℕ × ℕ) → Ascend (ps ++ q ∷ []) → AtOrAfter q r → Ascend (ps ++ r ∷ [])
ascend_later [] q r h after = tt
ascend_later (p ∷ ps) q r h after = from_later p ps q r h after

from_more : (p : ℕ × ℕ) (ps : List (ℕ × ℕ)) (q r : ℕ × ℕ) → PlacesAscendFrom p (ps ++ q ∷ []) → Precedes q r → PlacesAscendFrom p ((ps ++ q ∷ []) ++ r ∷ [])
from_more p [] q r h before = (h.0, (before, tt))
from_more p (x ∷ ps) q r h before = (h.0, from_more x ps q r h.1 before)

-- and another one may come behind it
pub ascend_more : (ps : List (ℕ × ℕ)) (q r : ℕ × ℕ) → Ascend (ps ++ q ∷ []) → Precedes q r → Ascend ((ps ++ q ∷ []) ++ r ∷ [])
ascend_more [] q r h before = (before, tt)
ascend_more (p ∷ ps) q r h before = from_more p ps q r h before

from_front : (p : ℕ × ℕ) (ps : List (ℕ × ℕ)) (q : ℕ × ℕ) → PlacesAscendFrom p (ps ++ q ∷ []) → PlacesAscendFrom p ps
from_front p [] q h = tt
from_front p (x ∷ ps) q h = (h.0, from_front x ps q h.1)

pub ascend_front : (ps : List (ℕ × ℕ)) (q : ℕ × ℕ) → Ascend (ps ++ q ∷ []) → Ascend ps
ascend_front [] q h = tt
ascend_front (p ∷ ps) q h = from_front p ps q h
