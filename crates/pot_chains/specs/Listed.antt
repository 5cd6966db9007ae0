-- What a list is a list of: exactly what has a property, each once.
use Rattle.std.specs.Prelude.{◌≡◌, ◌↔◌, ◌⊎◌, ◌<◌, ℕ, ◌+◌, List, [], ◌∷◌, length}

-- x stands in the list
abbrev pub IsIn : {X : Type 0} → List X → X → Type 0
IsIn [] x = ⊥
IsIn (y ∷ ys) x = (y ≡ x) ⊎ IsIn ys x

-- nothing stands in the list twice
abbrev pub IsOnce : {X : Type 0} → List X → Type 0
IsOnce [] = Unit {0}
IsOnce (x ∷ xs) = (¬ IsIn xs x) × IsOnce xs

-- in the list stands exactly what has P, each once
pub record IsListed {X : Type 0} (P : X → Type 0) (xs : List X) : Type 0 where
  pub each : (x : X) → IsIn xs x ↔ P x
  pub once : IsOnce xs

-- n things have P
abbrev pub IsNumber : {X : Type 0} → (X → Type 0) → ℕ → Type 0
IsNumber {X} P n = (xs : List X) × IsListed P xs × (length xs ≡ n)

-- with those counted before, so many have P that they pass the limit
abbrev pub AreAbove : {X : Type 0} → (X → Type 0) → ℕ → ℕ → Type 0
AreAbove {X} P limit before =
    (xs : List X) × IsOnce xs × ((x : X) → IsIn xs x → P x) × (limit < before + length xs)

-- a count has grown by the number of those that have P
abbrev pub HasGrown : {X : Type 0} → (X → Type 0) → ℕ → ℕ → Type 0
HasGrown {X} P before now = (xs : List X) × IsListed P xs × (now ≡ before + length xs)
