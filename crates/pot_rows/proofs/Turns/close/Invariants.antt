use Rattle.std.specs.Prelude.{◌≡◌, ◌++◌, map}
use Rattle.std.specs.Vec.{vec_capacity}
use Rattle.std.specs.Vec.Iter.{into_iter_items, into_iter_len}
use Rattle.pot_turn.specs.Passes.{view, turn_of, name_of, made_with}
use Rattle.pot_rows.specs.Ends.{CloseSofar, IsUntouched}
use Rattle.pot_rows.proofs.Turns.close.Given as goal

abbrev pub invariant-loop-turn : goal.invariant-loop-turn
invariant-loop-turn g l =
    CloseSofar g.T.Kept.log g.T.Kept.origin l.fn.passes (into_iter_len l.turns) (map name_of (into_iter_items l.turns))
    (record { names = map turn_of (into_iter_items l.passes); views = map view (into_iter_items l.passes) }) l.values.items
    × (vec_capacity l.values ≡ vec_capacity l.fn.values)
    × (IsUntouched l.fn.passes → l.values.items ++ map made_with (into_iter_items l.turns) ≡ l.fn.self.made)

abbrev pub decreases-loop-turn : goal.decreases-loop-turn
decreases-loop-turn g l = into_iter_len l.turns
