-- Beginnings of a log.
use Rattle.std.specs.Prelude.{◌≡◌, List, ◌++◌, length, if◌then◌else◌, nat_lt}
use mathlib.Core.Path.{◌∙◌, sym}
use mathlib.Core.HLevel.{Σ_prop_path}
use Rattle.std.proofs.lemmas.List.{append_cancel_left}

-- the whole log begins with the front
abbrev pub StartsWith : {E : Type 0} → List E → List E → Type 0
StartsWith {E} whole front = (rest : List E) × (whole ≡ front ++ rest)

-- the rest is determined
pub StartsWith-prop : {E : Type 0} → IsSet (List E) → (whole front : List E)
    → IsProp (StartsWith whole front)
StartsWith-prop set whole front p q =
    Σ_prop_path (λ rest. set whole (front ++ rest))
    (append_cancel_left front p.0 q.0 (sym p.1 ∙ q.1))

-- of two beginnings of one log, the one that has seen more
abbrev pub longer : {E : Type 0} → List E → List E → List E
longer xs ys = if nat_lt (length xs) (length ys) then ys else xs

abbrev pub shorter : {E : Type 0} → List E → List E → List E
shorter xs ys = if nat_lt (length xs) (length ys) then xs else ys
