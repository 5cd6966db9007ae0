-- The archives in a hand: which numbers they have, and what they mean.
use Rattle.std.specs.Prelude.{◌≡◌, ◌≤◌, ◌+◌, ◌==◌, ℕ, List, [], ◌∷◌, Contains, if◌then◌else◌}
use Rattle.pot_outside.specs.Archives.{Meaning, IsMeant, OnlyLoses}
use Rattle.pot_outside.specs.declared.archive.Shelf.{Shelf}

-- how often a number stands among these
abbrev pub times : ℕ → List ℕ → ℕ
times n [] = 0
times n (m ∷ ms) = (if m == n then 1 else 0) + times n ms

-- no number stands twice among these
abbrev pub AreApart : List ℕ → Type 0
AreApart numbers = (n : ℕ) → times n numbers ≤ 1

-- each of these stands among those
abbrev pub AreAmong : {A : Type 0} → List A → List A → Type 0
AreAmong {A} those these = (x : A) → Contains these x → Contains those x

-- the same numbers, in another order
abbrev pub AreSame : List ℕ → List ℕ → Type 0
AreSame xs ys = (n : ℕ) → times n xs ≡ times n ys

-- each of these archives means what its number means
abbrev pub AreMeant : {A : Type 0} → (A → Meaning) → (ℕ → Meaning) → List (Shelf A) → Type 0
AreMeant {A} meaning means shelves =
    (s : Shelf A) → Contains shelves s → IsMeant (means s.number) (meaning s.archive)

-- An archive meant the first, was read and no more, and means the second. No block is new or
-- altered, and none is gone while its count of losses did not rise. It held and heard nothing new,
-- and neither of its counts fell.
pub record IsMeantButLost (m n : Meaning) : Type 0 where
  pub loses : OnlyLoses m.held n.held m.losses n.losses
  pub past : n.history ≡ m.history
  pub sums : n.heard ≡ m.heard
  pub later : m.faults ≤ n.faults

-- each of these archives means what its number means, but for losses that it counted
abbrev pub AreMeantButLost : {A : Type 0} → (A → Meaning) → (ℕ → Meaning) → List (Shelf A)
    → Type 0
AreMeantButLost {A} meaning means shelves =
    (s : Shelf A) → Contains shelves s → IsMeantButLost (means s.number) (meaning s.archive)
