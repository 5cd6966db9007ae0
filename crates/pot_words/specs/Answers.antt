-- What an exact reader answers.
use Rattle.std.specs.Prelude.{◌≡◌, Option, Some, None}

-- the answer is the only value of which P holds, and None where it holds of none
abbrev pub IsOnly : {T : Type 0} → (T → Type 0) → Option T → Type 0
IsOnly {T} P None = (t : T) → P t → ⊥
IsOnly {T} P (Some t) = P t × ((s : T) → P s → s ≡ t)
