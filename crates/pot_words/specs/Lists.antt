-- Lists in the values of options: points, and spots.
use Rattle.std.specs.Prelude.{◌≡◌, ◌≤◌, ◌+◌, ◌*◌, ◌⊎◌, ⊤, ℕ, List, [], ◌∷◌, ◌++◌, Option, Some}
use Rattle.std.specs.Prelude.{None, map, decimal}
use Rattle.std.specs.List.{join_with_byte}
use Rattle.pot_options.specs.Options.{Text}
use Rattle.pot_words.specs.declared.spot.Spot.{Spot}

-- the text lists the items, with a comma (44) between each two; there is at least one
abbrev pub Lists : {X : Type 0} → (X → Text) → Text → List X → Type 0
Lists spell text [] = ⊥
Lists spell text (x ∷ xs) = text ≡ join_with_byte 44 (map spell (x ∷ xs))

-- each item fits, the first has at least the rank `least`, and each other a greater rank than the
-- one before it
abbrev pub AscendFrom : {X : Type 0} → (X → Type 0) → (X → ℕ) → ℕ → List X → Type 0
AscendFrom Fits rank least [] = ⊤
AscendFrom Fits rank least (x ∷ xs) =
    Fits x × (least ≤ rank x) × AscendFrom Fits rank (rank x + 1) xs

-- points from 1 to `most`, ascending
abbrev pub AreListedPoints : ℕ → List ℕ → Type 0
AreListedPoints most points = AscendFrom (λ p. p ≤ most) (λ p. p) 1 points

-- the option lists the points, or is left out where there are none
abbrev pub HasPoints : (Text → Option Text) → Text → ℕ → List ℕ → Type 0
HasPoints value name most points = ((value name ≡ None) × (points ≡ []))
    ⊎ ((text : Text) × (value name ≡ Some text) × AreListedPoints most points × Lists decimal text points)

-- the group and the column, with a dot (46) between them
abbrev pub spot_text : Spot → Text
spot_text spot = decimal spot.group ++ 46 ∷ decimal spot.column

-- a place that a rack may have: one of 16 groups, and one of 16 data columns and two parity columns
abbrev pub IsSpot : Spot → Type 0
IsSpot spot = (spot.group ≤ 15) × (spot.column ≤ 17)

-- a spot's place among all spots, by group and then by column
abbrev pub spot_rank : Spot → ℕ
spot_rank spot = spot.group * 18 + spot.column

-- the option lists the spots, ascending
abbrev pub HasSpots : (Text → Option Text) → Text → List Spot → Type 0
HasSpots value name spots = (text : Text) × (value name ≡ Some text)
    × AscendFrom IsSpot spot_rank 0 spots × Lists spot_text text spots
