-- Rows of passes that tell one another what they have seen.
use Rattle.std.specs.Prelude.{◌≡◌, ℕ, ◌<◌, ◌≤◌, List}
use Rattle.pot_turn.specs.declared.view.View.{View}
use Rattle.pot_turn.specs.declared.name.TurnName.{TurnName}
use Rattle.pot_turn.specs.Logs.{StartsWith}
use Rattle.pot_worked.specs.WroteOnlyFor.{KnowsMore}
use Rattle.pot_rows.specs.Rows.{PassRow, AreOf, view_at, with_view}

module _ {E O : Type 0} where
  -- two passes of one turn told one another what they had seen
  pub record Tied (v w v' w' : View E O) : Type 0 where
    pub mine : KnowsMore v v'
    pub other : KnowsMore w w'
    pub told : StartsWith v'.seen w.seen
    pub heard : StartsWith w'.seen v.seen

  -- the passes of one turn of two rows did, and nothing else changed
  pub record TiedAt (mine others : PassRow E O) (at : ℕ) (mine' others' : PassRow E O) : Type
      0 where
    pub one : View E O
    pub other : View E O
    pub tied : Tied (view_at mine at) (view_at others at) one other
    pub is_mine : mine' ≡ with_view mine at one
    pub is_other : others' ≡ with_view others at other

  -- the passes of two rows did, at each place
  abbrev pub RowTied : PassRow E O → PassRow E O → PassRow E O → PassRow E O → Type 0
  RowTied mine others mine' others' =
      (at : ℕ) → Tied (view_at mine at) (view_at others at) (view_at mine' at) (view_at others' at)

  -- those of the first `n` turns did so far, and the others are as they were
  pub record TiedSofar (names : List TurnName) (n : ℕ)
      (mine others mine' others' : PassRow E O) : Type 0 where
    pub mine_of : AreOf names mine'
    pub others_of : AreOf names others'
    pub each : (at : ℕ) → at < n
        → Tied (view_at mine at) (view_at others at) (view_at mine' at) (view_at others' at)
    pub rest : (at : ℕ) → n ≤ at
        → (view_at mine' at ≡ view_at mine at) × (view_at others' at ≡ view_at others at)
