-- The limits of a rack and of its logs.
use Rattle.std.specs.Prelude.{◌≤◌, ℕ}
use Rattle.pot_bytes.specs.declared.rack.Geometry.{Geometry}
use Rattle.pot_bytes.specs.declared.rack.Place.{Place}
use Rattle.pot_bytes.specs.declared.rack.Rack.{Rack}

-- 2 to 8 fragments, a threshold of 1 to the number of shards, at most 16 shards, and a blur of at
-- most 63 bits
pub record IsGeometry (g : Geometry) : Type 0 where
  pub fragments : (2 ≤ g.fragments) × (g.fragments ≤ 8)
  pub need : (1 ≤ g.need) × (g.need ≤ g.shards)
  pub shards : g.shards ≤ 16
  pub blur : g.blur ≤ 63

-- a geometry within its limits, whose shards lie in as many of these groups
pub record FitsIn (groups : ℕ) (g : Geometry) : Type 0 where
  pub geometry : IsGeometry g
  pub apart : g.shards ≤ groups

-- a geometry within its limits, at least as many groups as shards and at most 16, 1 to 16 data
-- columns, one or two parity columns, and 1 to 4,096 stripes
pub record IsRack (r : Rack) : Type 0 where
  pub geometry : IsGeometry r.geometry
  pub groups : (r.geometry.shards ≤ r.groups) × (r.groups ≤ 16)
  pub columns : (1 ≤ r.columns) × (r.columns ≤ 16)
  pub parity : (1 ≤ r.parity) × (r.parity ≤ 2)
  pub stripes : (1 ≤ r.stripes) × (r.stripes ≤ 4096)

-- at most so many entries has the log of a group, or of the index, in one session
abbrev pub log_bound : ℕ
log_bound = 262144

-- the place that a list gives where it has none
abbrev pub no_place : Place
no_place = record { group = 0; column = 0; stripe = 0 }
