-- Passes that can call: those of the turns of a vault, each of which holds nothing and is of the
-- group of its number.
use Rattle.std.specs.Prelude.{◌≡◌, ◌<◌, ◌+◌, ℕ, List, false, Option, IfSome, length}
use Rattle.pot_bytes.specs.declared.rack.Place.{Place}
use Rattle.pot_bytes.specs.declared.rack.Rack.{Rack}
use Rattle.pot_machine.specs.Table.{Table}
use Rattle.pot_turn.specs.declared.name.TurnName.{TurnName}
use Rattle.pot_turn.specs.declared.view.View.{View}
use Rattle.pot_rows.specs.Rows.{PassRow, AreOf, view_at}
use Rattle.pot_shared.specs.declared.member.Logged.{Logged}
use Rattle.pot_shared.specs.declared.member.GroupOrigin.{GroupOrigin}

-- what a pass of a group knows
abbrev pub GroupPass : Type 0
GroupPass = View Logged GroupOrigin

-- what a pass of each group knows
abbrev pub GroupPasses : Type 0
GroupPasses = PassRow Logged GroupOrigin

-- a table of a group of the rack
abbrev pub IsTableOf : Rack → Table → Type 0
IsTableOf rack t =
    (t.data_columns ≡ rack.columns) × (t.parity ≡ rack.parity) × (t.stripes ≡ rack.stripes)

-- the origin of the group of this number
abbrev pub IsOrigin : Rack → ℕ → Option GroupOrigin → Type 0
IsOrigin rack number origin = IfSome origin (λ o. (o.number ≡ number) × IsTableOf rack o.first)

-- the passes are of these turns, hold no value, and each is of the group of its number
pub record AreReady (rack : Rack) (names : List TurnName) (row : GroupPasses) : Type 0 where
  pub of : AreOf names row
  pub idle : (g : ℕ) → (view_at row g).holds ≡ false
  pub origins : (g : ℕ) → g < length names → IsOrigin rack g (view_at row g).origin

-- a slot of the rack, in a group that has a turn
abbrev pub HasSlot : Rack → List TurnName → Place → Type 0
HasSlot rack names place =
    (place.group < length names) × (place.stripe < rack.stripes)
    × (place.column < rack.columns + rack.parity)
