-- Chains of positions through levels, one for each point.
use Rattle.std.specs.Prelude.{◌≡◌, ◌<◌, ℕ, zero, suc, ◌^◌, List, [], ◌∷◌, length}
use Rattle.pot_chains.specs.Steps.{IsPointedAt}
use Rattle.pot_chains.specs.declared.levels.Level.{Level}

-- what follows position p of the first level: at each next level one that the pointer of the last
-- means
abbrev pub IsPathFrom : ℕ → List Level → ℕ → List ℕ → Type 0
IsPathFrom bits levels p [] = Unit {0}
IsPathFrom bits [] p (q ∷ qs) = ⊥
IsPathFrom bits (a ∷ []) p (q ∷ qs) = ⊥
IsPathFrom bits (a ∷ (b ∷ rest)) p (q ∷ qs) =
    IsPointedAt a.pointers.items b.index bits p q × IsPathFrom bits (b ∷ rest) q qs

-- a chain of n + 1 from the first level on
abbrev pub IsPath : ℕ → List Level → ℕ → List ℕ → Type 0
IsPath bits levels n [] = ⊥
IsPath bits [] n (p ∷ ps) = ⊥
IsPath bits (a ∷ rest) n (p ∷ ps) =
    (p < length a.pointers.items) × (length ps ≡ n) × IsPathFrom bits (a ∷ rest) p ps

-- a chain of 1 to m
abbrev pub IsPathBelow : ℕ → List Level → ℕ → List ℕ → Type 0
IsPathBelow bits levels m chain = (k : ℕ) × (k < m) × IsPath bits levels k chain

-- a level has a pointer for each name, and fewer than 2 ^ 32 of them
pub record IsLevel (a : Level) : Type 0 where
  pub same : length a.index ≡ length a.pointers.items
  pub short : length a.pointers.items < 2 ^ 32

abbrev pub AreLevels : List Level → Type 0
AreLevels [] = Unit {0}
AreLevels (a ∷ rest) = IsLevel a × AreLevels rest

-- the step from level t to the next
abbrev pub StepAt : ℕ → List Level → ℕ → ℕ → ℕ → Type 0
StepAt bits [] t q u = ⊥
StepAt bits (a ∷ []) t q u = ⊥
StepAt bits (a ∷ (b ∷ rest)) zero q u = IsPointedAt a.pointers.items b.index bits q u
StepAt bits (a ∷ (b ∷ rest)) (suc t) q u = StepAt bits (b ∷ rest) t q u
