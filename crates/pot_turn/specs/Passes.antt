-- What a clause reads of a turn and of a pass.
use Rattle.std.specs.Prelude.{◌≡◌}
use Rattle.pot_turn.specs.declared.Kept.{Ghosts}
use Rattle.pot_turn.specs.declared.turning.Turn.{Turn}
use Rattle.pot_turn.specs.declared.turning.Pass.{Pass}
use Rattle.pot_turn.specs.declared.view.View.{View}
use Rattle.pot_turn.specs.declared.name.TurnName.{TurnName}
use Rattle.pot_turn.specs.Names.{named}

-- the name of the turn
abbrev pub name_of : {T E O : Type 0} → Turn T E O → TurnName
name_of t = named t.table.shared.table_id

-- the value that the turn was made with
abbrev pub made_with : {T E O : Type 0} → Turn T E O → T
made_with t = t.table.shared.key.value

module _ {T E O : Type 0} {g : Ghosts T E O} where
  -- the name of the turn that the pass is of
  abbrev pub turn_of : Pass T E O g → TurnName
  turn_of p = named p.seat.table_id

  -- what the pass knows
  abbrev pub view : Pass T E O g → View E O
  view p = p.seat.me.0.view

  -- the pass is of this turn
  abbrev pub IsPassOf : Turn T E O → Pass T E O g → Type 0
  IsPassOf t p = turn_of p ≡ name_of t
