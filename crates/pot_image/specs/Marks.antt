-- How a reader remembers the places of a split: each place of the rack has a stamp, and those with
-- the stamp of the split are its places so far.
use Rattle.std.specs.Prelude.{◌≡◌, ◌<◌, ◌≤◌, ℕ, ◌+◌, ◌*◌, ◌==◌, not, List, length, slice_index}
use Rattle.pot_bytes.specs.declared.rack.Place.{Place}
use Rattle.pot_bytes.specs.declared.rack.Rack.{Rack}
use Rattle.pot_image.specs.Records.{is_apart}

-- where the stamp of a place stands
abbrev pub spot : Rack → ℕ → ℕ → ℕ → ℕ
spot rack g c s = (g * rack.stripes + s) * rack.columns + c

-- a stamp for each place, none above the last one
pub record AreStamps (rack : Rack) (stamps : List ℕ) (last : ℕ) : Type 0 where
  pub count : length stamps ≡ rack.groups * rack.stripes * rack.columns
  pub low : (i : ℕ) → slice_index stamps i ≤ last

-- those with the last stamp are these places
pub record HaveMarks (rack : Rack) (stamps : List ℕ) (last : ℕ) (before : List Place) : Type 0 where
  pub all : AreStamps rack stamps last
  pub marks : (g c s : ℕ) → g < rack.groups → c < rack.columns → s < rack.stripes
      → not (slice_index stamps (spot rack g c s) == last) ≡ is_apart before g c s
