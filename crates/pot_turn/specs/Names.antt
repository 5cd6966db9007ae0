-- The name of a turn.
use Rattle.atomic_table.specs.Seated.{TableId}
use Rattle.pot_turn.specs.declared.name.TurnName.{TurnName}

abbrev pub named : TableId → TurnName
named id = record { marker = record {}; id = id }
