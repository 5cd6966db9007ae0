-- How a row of turns begins, and how it ends.
use Rattle.std.specs.Prelude.{◌≡◌, ℕ, ◌+◌, ◌^◌, ◌<◌, List, [], length, drop, map, slice_get, Some}
use Rattle.pot_turn.specs.declared.Kept.{Ghosts}
use Rattle.pot_turn.specs.declared.turning.Turn.{Turn}
use Rattle.pot_turn.specs.declared.turning.Pass.{Pass}
use Rattle.pot_turn.specs.declared.view.View.{View}
use Rattle.pot_turn.specs.declared.name.TurnName.{TurnName}
use Rattle.pot_turn.specs.Logs.{StartsWith}
use Rattle.pot_turn.specs.Stretches.{IsOnceEach}
use Rattle.pot_turn.specs.Jobs.{EntriesAreCarried}
use Rattle.pot_turn.specs.Views.{stretches_of, first_view}
use Rattle.pot_turn.specs.Passes.{view, turn_of, name_of, made_with}
use Rattle.pot_rows.specs.Rows.{PassRow, view_at}

-- what the first pass of a turn knows
abbrev pub first_of : {T E O : Type 0} → (T → List E) → (T → O) → Turn T E O → View E O
first_of log origin t = first_view (log (made_with t)) (origin (made_with t))

-- these are the first passes of these turns, one of each, and none of them ever entered
abbrev pub AreFirstOfTurns : {T E O : Type 0} {g : Ghosts T E O} → (T → List E) → (T → O)
    → List (Turn T E O) → List (Pass T E O g) → Type 0
AreFirstOfTurns log origin turns passes =
    (map turn_of passes ≡ map name_of turns) × (map view passes ≡ map (first_of log origin) turns)

module _ {E O : Type 0} where
  -- each pass of the row has all parts of its turn
  abbrev pub HasAllParts : PassRow E O → Type 0
  HasAllParts row = (at : ℕ) → at < length row.names → (view_at row at).parts ≡ 2 ^ 62

  -- no pass of the row ever took a value, nor did one that it took in
  abbrev pub IsUntouched : PassRow E O → Type 0
  IsUntouched row = (at : ℕ) → at < length row.names → stretches_of (view_at row at) ≡ []

  -- A turn was closed with a pass that knew this, and its value has this log and this origin. Every
  -- other pass was spent, so this one had seen the whole log, and each entry since the turn was
  -- made stands in just one of its stretches.
  pub record Closed (log : List E) (origin : O) (v : View E O) : Type 0 where
    pub seen : log ≡ v.seen
    pub since : StartsWith log v.opened
    pub named : Some origin ≡ v.origin
    pub made : length log ≡ length v.opened + v.made
    pub once : IsOnceEach v.opened log (stretches_of v)
    pub jobs : EntriesAreCarried v log

module _ {T E O : Type 0} (log_of : T → List E) (origin_of : T → O) where
  -- the values of the turns of a row, in order, at its close
  pub record RowClosed (row : PassRow E O) (values : List T) : Type 0 where
    pub count : length values ≡ length row.names
    pub each : (at : ℕ) (x : T) → slice_get values at ≡ Some x
        → Closed (log_of x) (origin_of x) (view_at row at)

  -- the values of the first turns so far, and what is left of the turns, which are `n`, and of the
  -- row
  pub record CloseSofar (row : PassRow E O) (n : ℕ) (turns : List TurnName) (left : PassRow E O)
      (values : List T) : Type 0 where
    pub count : length values + n ≡ length row.names
    pub left_turns : turns ≡ drop (length values) row.names
    pub left_names : left.names ≡ drop (length values) row.names
    pub left_views : left.views ≡ drop (length values) row.views
    pub each : (at : ℕ) (x : T) → slice_get values at ≡ Some x
        → Closed (log_of x) (origin_of x) (view_at row at)
