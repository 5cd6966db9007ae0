-- Which points of a split are exposed to a coalition of columns.
use Rattle.std.specs.Prelude.{◌≡◌, ◌<◌, ◌⊎◌, ℕ, ◌+◌, ◌==◌, ◌&&◌, ◌||◌, Bool, nat_le, List, All}
use Rattle.std.specs.Prelude.{AllPairs, length, filter}
use Rattle.std.specs.List.{list_any}
use Rattle.pot_bytes.specs.declared.rack.Rack.{Rack}
use Rattle.pot_index.specs.declared.record.Split.{Split}
use Rattle.pot_machine.specs.Table.{count}
use Rattle.pot_shard.specs.Places.{place_at}
use Rattle.pot_audit.specs.declared.spot.Spot.{Spot}

-- by group, and then by column
abbrev pub IsSpotBefore : Spot → Spot → Type 0
IsSpotBefore a b = (a.group < b.group) ⊎ ((a.group ≡ b.group) × (a.column < b.column))

-- columns of a rack, each once: its data columns stand first, and then its parity columns
pub record AreSpots (rack : Rack) (spots : List Spot) : Type 0 where
  pub each : All (λ s. (s.group < rack.groups) × (s.column < rack.columns + rack.parity)) spots
  pub ascend : AllPairs IsSpotBefore spots

-- whether a coalition has a column of a group
abbrev pub has_column : List Spot → ℕ → ℕ → Bool
has_column spots n c = list_any (λ s. (s.group == n) && (s.column == c)) spots

-- A group is open to a coalition that has two of its columns, or a parity column.
abbrev pub is_open : Rack → List Spot → ℕ → Bool
is_open rack spots n =
    nat_le 2 (length (filter (λ s. s.group == n) spots))
    || list_any (λ s. (s.group == n) && nat_le rack.columns s.column) spots

-- A block is exposed where its group is open, or its column is the coalition's.
abbrev pub is_exposed : Rack → List Spot → ℕ → ℕ → Bool
is_exposed rack spots n c = is_open rack spots n || has_column spots n c

-- whether point p of fragment j of piece i is exposed, all from 0
abbrev pub is_exposed_at : Rack → List Spot → Split → ℕ → ℕ → ℕ → Bool
is_exposed_at rack spots s i j p =
    is_exposed rack spots (place_at s.geometry s.places i j p).group
    (place_at s.geometry s.places i j p).column

-- how many points of a fragment are exposed
abbrev pub exposed_points : Rack → List Spot → Split → ℕ → ℕ → ℕ
exposed_points rack spots s i j = count s.geometry.shards (is_exposed_at rack spots s i j)
