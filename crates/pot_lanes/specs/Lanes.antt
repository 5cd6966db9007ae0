-- Four messages side by side.
use Rattle.std.specs.Prelude.{ℕ, zero, suc, List, [], ◌∷◌, map, slice_index}
use Rattle.pot_lanes.specs.declared.state.State.{State}

-- the vector that holds f l in lane l
unfoldable pub by_lane : (ℕ → ℕ) → List ℕ
by_lane f = f 0 ∷ f 1 ∷ f 2 ∷ f 3 ∷ []

-- what lane l of the working variables holds
abbrev pub lane : ℕ → State → List ℕ
lane l s =
    slice_index s.a l ∷ slice_index s.b l ∷ slice_index s.c l ∷ slice_index s.d l
    ∷ slice_index s.e l ∷ slice_index s.f l ∷ slice_index s.g l ∷ slice_index s.h l ∷ []

-- what lane l of a window of words holds
abbrev pub window : ℕ → List (List ℕ) → List ℕ
window l w = map (λ v. slice_index v l) w

-- one of four, by its number
abbrev pub nth : {A : Type 0} → ℕ → A → A → A → A → A
nth zero a b c d = a
nth (suc zero) a b c d = b
nth (suc (suc zero)) a b c d = c
nth (suc (suc (suc l))) a b c d = d
