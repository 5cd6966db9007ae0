-- Which records fit a rack.
use Rattle.std.specs.Prelude.{◌≡◌, ◌<◌, ◌≤◌, ℕ, ◌+◌, ◌*◌, ◌/◌, ◌%◌, All, Some, length, slice_get}
use Rattle.pot_bytes.specs.Rack.{IsGeometry}
use Rattle.pot_bytes.specs.declared.rack.Geometry.{Geometry}
use Rattle.pot_bytes.specs.declared.rack.Place.{Place}
use Rattle.pot_bytes.specs.declared.rack.Rack.{Rack}
use Rattle.pot_object.specs.Pieces.{longest, pieces_of}
use Rattle.pot_index.specs.declared.record.Record.{Record}
use Rattle.pot_index.specs.declared.record.Split.{Split}
use Rattle.pot_index.specs.Records.{splits_of}

-- a geometry within its limits, and the rack has a group for each shard of a fragment
pub record FitsGeometry (rack : Rack) (g : Geometry) : Type 0 where
  pub limits : IsGeometry g
  pub groups : g.shards ≤ rack.groups

-- The group of a block. The blocks of a split stand by piece i, fragment j and point x, all from 0,
-- so block number b is that of i * k + j = b / n and x = b % n, with k fragments and n shards. It
-- stands in group i * k + j + x, modulo the number of groups.
abbrev pub group_of : Rack → Geometry → ℕ → ℕ
group_of rack g b = (b / g.shards + b % g.shards) % rack.groups

-- a place for the block of this number: in its group, in a data column and a stripe that the rack
-- has
pub record FitsPlace (rack : Rack) (g : Geometry) (b : ℕ) (p : Place) : Type 0 where
  pub group : p.group ≡ group_of rack g b
  pub column : p.column < rack.columns
  pub stripe : p.stripe < rack.stripes

-- a split of a file of so many pieces: a place for each block, all of them distinct
pub record FitsSplit (rack : Rack) (pieces : ℕ) (s : Split) : Type 0 where
  pub geometry : FitsGeometry rack s.geometry
  pub count : length s.places ≡ pieces * s.geometry.fragments * s.geometry.shards
  pub places : (b : ℕ) (p : Place) → slice_get s.places b ≡ Some p → FitsPlace rack s.geometry b p
  pub distinct : (a b : ℕ) (p : Place) → slice_get s.places a ≡ Some p
      → slice_get s.places b ≡ Some p → a ≡ b

-- a record of a file that is not too long, with 1 to 16 splits, each of which fits the rack
pub record FitsRack (rack : Rack) (r : Record) : Type 0 where
  pub long : r.length ≤ longest
  pub few : length r.older ≤ 15
  pub splits : All (FitsSplit rack (pieces_of r.length)) (splits_of r)
