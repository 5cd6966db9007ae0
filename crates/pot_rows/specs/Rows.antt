-- Passes of several turns in a row.
use Rattle.std.specs.Prelude.{◌≡◌, ℕ, ◌<◌, List, false, length, slice_set, slice_index_or}
use Rattle.pot_turn.specs.declared.view.View.{View}
use Rattle.pot_turn.specs.declared.name.TurnName.{TurnName}
use Rattle.pot_turn.specs.Views.{spent_view}

-- the names of the turns, and the value that each was made with
pub record TurnRow (T : Type 0) : Type 0 where
  pub names : List TurnName
  pub made : List T

-- the names of the turns, and what the pass of each knows
pub record PassRow (E O : Type 0) : Type 0 where
  pub names : List TurnName
  pub views : List (View E O)

-- a pass of each of these turns
abbrev pub AreOf : {E O : Type 0} → List TurnName → PassRow E O → Type 0
AreOf names row = (row.names ≡ names) × (length row.views ≡ length names)

module _ {E O : Type 0} where
  -- what the pass at a place knows; past the last it is a spent one, which knows nothing
  abbrev pub view_at : PassRow E O → ℕ → View E O
  view_at row at = slice_index_or row.views at spent_view

  -- the pass of one turn knows this, and nothing else changed
  abbrev pub with_view : PassRow E O → ℕ → View E O → PassRow E O
  with_view row at v = record row { views = slice_set row.views at v }

  -- no pass of the row has its value
  abbrev pub IsIdle : PassRow E O → Type 0
  IsIdle row = (at : ℕ) → at < length row.names → (view_at row at).holds ≡ false

  -- each pass of the row has more parts than so many
  abbrev pub HasMoreParts : ℕ → PassRow E O → Type 0
  HasMoreParts n row = (at : ℕ) → at < length row.names → n < (view_at row at).parts
