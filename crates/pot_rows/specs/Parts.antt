-- Rows of passes that are split into two, or become one.
use Rattle.std.specs.Prelude.{◌≡◌, ℕ, ◌<◌, ◌≤◌, List, length, take, drop}
use Rattle.pot_turn.specs.declared.view.View.{View}
use Rattle.pot_turn.specs.declared.name.TurnName.{TurnName}
use Rattle.pot_turn.specs.Logs.{StartsWith}
use Rattle.pot_turn.specs.Stretches.{times}
use Rattle.pot_turn.specs.Views.{stretches_of, cut_view, new_view, both_views}
use Rattle.pot_rows.specs.Rows.{PassRow, AreOf, view_at, with_view}

module _ {E O : Type 0} where
  -- each pass of a row gave so many parts away
  abbrev pub RowCut : ℕ → PassRow E O → PassRow E O → Type 0
  RowCut parts old new =
      (at : ℕ) → at < length old.names → view_at new at ≡ cut_view parts (view_at old at)

  -- each pass of this row is a new one with them
  abbrev pub RowNew : ℕ → PassRow E O → PassRow E O → Type 0
  RowNew parts old given =
      (at : ℕ) → at < length old.names → view_at given at ≡ new_view parts (view_at old at)

  -- a row whose first `n` passes were split so far; the new passes are these
  pub record SplitSofar (names : List TurnName) (n parts : ℕ) (old new part : PassRow E O) : Type
      0 where
    pub new_of : AreOf names new
    pub part_names : part.names ≡ take n names
    pub part_long : length part.views ≡ n
    pub left : (at : ℕ) → at < n → view_at new at ≡ cut_view parts (view_at old at)
    pub given : (at : ℕ) → at < n → view_at part at ≡ new_view parts (view_at old at)
    pub rest : (at : ℕ) → n ≤ at → view_at new at ≡ view_at old at

  -- A pass took in another: it has seen what either had, the two had one opening log and one
  -- origin, and no position stands in two of its stretches.
  pub record Joined (v w x : View E O) : Type 0 where
    pub both : x ≡ both_views v w
    pub begins : StartsWith x.seen v.seen
    pub its_begins : StartsWith x.seen w.seen
    pub opened : w.opened ≡ v.opened
    pub origin : w.origin ≡ v.origin
    pub apart : (i : ℕ) → times i (stretches_of x) ≤ 1

  -- the pass of one turn of a row did, and nothing else changed
  pub record JoinedAt (old : PassRow E O) (at : ℕ) (w : View E O) (new : PassRow E O) : Type 0 where
    pub one : View E O
    pub joined : Joined (view_at old at) w one
    pub is : new ≡ with_view old at one

  -- the passes of a row took in those of another, at each place
  abbrev pub RowJoined : PassRow E O → PassRow E O → PassRow E O → Type 0
  RowJoined old other new = (at : ℕ) → Joined (view_at old at) (view_at other at) (view_at new at)

  -- those of the first `n` turns did so far, and these are left of the other row
  pub record JoinSofar (names : List TurnName) (n : ℕ) (old other new left : PassRow E O) : Type
      0 where
    pub new_of : AreOf names new
    pub left_names : left.names ≡ drop n names
    pub left_views : left.views ≡ drop n other.views
    pub each : (at : ℕ) → at < n → Joined (view_at old at) (view_at other at) (view_at new at)
    pub rest : (at : ℕ) → n ≤ at → view_at new at ≡ view_at old at
