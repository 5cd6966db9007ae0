-- The points that the words of a drill name.
use Rattle.std.proofs.Common.{◌+◌, ◌<◌, ◌≤◌, ℕ, zero, suc, List, [], ◌∷◌, length, get_or, arith}
use Rattle.pot_veil.specs.Seen.{AreSeen}
use Rattle.pot_words.specs.Lists.{AscendFrom, AreListedPoints}

-- each is at least the least and at most the most
each_point : (most least : ℕ) (points : List ℕ) → AscendFrom (λ p. p ≤ most) (λ p. p) least points → (i : ℕ) → i < length points
    → (least ≤ get_or points i 0) × (get_or points i 0 ≤ most)
each_point most least [] h i lt = absurd (omega arith)
each_point most least (x ∷ xs) h zero lt = (h.1, h.0)
each_point most least (x ∷ xs) h (suc i) lt =
    let later = each_point most (x + 1) xs h.2 i (omega arith) in
    (omega (arith, h.1, later.0), later.1)

-- and each is less than any later one
in_order : (most least : ℕ) (points : List ℕ) → AscendFrom (λ p. p ≤ most) (λ p. p) least points → (i k : ℕ) → i < k → k < length points
    → get_or points i 0 < get_or points k 0
in_order most least [] h i k before lt = absurd (omega arith)
in_order most least (x ∷ xs) h i zero before lt = absurd (omega arith)
in_order most least (x ∷ xs) h zero (suc k) before lt = omega (arith, (each_point most (x + 1) xs h.2 k (omega arith)).0)
in_order most least (x ∷ xs) h (suc i) (suc k) before lt = in_order most (x + 1) xs h.2 i k (omega arith) (omega arith)

pub are_seen : (n : ℕ) (points : List ℕ) → AreListedPoints n points → AreSeen n points
are_seen n points h = record { ascending = in_order n 1 points h; each = each_point n 1 points h }
