-- What the contracts see of a vault.
use Rattle.std.specs.Prelude.{List}
use Rattle.pot_bytes.specs.declared.rack.Rack.{Rack}
use Rattle.pot_turn.specs.declared.name.TurnName.{TurnName}

-- its rack, and its turns
pub record VaultView : Type 0 where
  pub rack : Rack
  pub groups : List TurnName
  pub index : List TurnName

abbrev pub vault_view : Rack → List TurnName → List TurnName → VaultView
vault_view rack groups index = record { rack = rack; groups = groups; index = index }
