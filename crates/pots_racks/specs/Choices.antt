-- Which rack a file goes to.
use Rattle.std.specs.Prelude.{◌≡◌, ◌<◌, ℕ, List, Bool, true, false, get_or}
use Rattle.pots_racks.specs.declared.choosing.Choice.{Choice}
use Rattle.pots_racks.specs.declared.choosing.Choice.TheVariants.{Stands, Goes, Nowhere}

-- the place is marked
abbrev pub IsPlaceMarked : List Bool → ℕ → Type 0
IsPlaceMarked marks i = get_or marks i false ≡ true

-- and it is the first one
pub record IsFirstMarked (marks : List Bool) (i : ℕ) : Type 0 where
  pub marked : IsPlaceMarked marks i
  pub before : (j : ℕ) → j < i → get_or marks j false ≡ false

-- no place is marked
abbrev pub IsNoneMarked : List Bool → Type 0
IsNoneMarked marks = (i : ℕ) → get_or marks i false ≡ false

-- A file that stands in a rack goes on in the first of these. Else it goes to the first rack with
-- room for all of it, and to none only where no rack has so much.
abbrev pub IsChosen : List Bool → List Bool → Choice → Type 0
IsChosen stands has_room (Stands i) = IsFirstMarked stands i
IsChosen stands has_room (Goes i) = IsNoneMarked stands × IsFirstMarked has_room i
IsChosen stands has_room Nowhere = IsNoneMarked stands × IsNoneMarked has_room
