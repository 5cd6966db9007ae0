use Rattle.std.specs.Prelude.{◌≡◌, ◌+◌, ◌≤◌, ◌++◌, length, map, reverse}
use Rattle.std.specs.Vec.{vec_len, vec_capacity}
use Rattle.pot_turn.specs.Passes.{made_with}
use Rattle.pot_rows.specs.Ends.{AreFirstOfTurns}
use Rattle.pot_rows.proofs.ends.unmake_turns.Given as goal

abbrev pub invariant-loop-turn : goal.invariant-loop-turn
invariant-loop-turn g l =
    AreFirstOfTurns g.T.Kept.log g.T.Kept.origin l.turns.items l.passes.items
    × (l.values.items ++ reverse (map made_with l.turns.items) ≡ l.fn.values.items ++ reverse (map made_with l.fn.turns.items))
    × (length l.values.items + length l.turns.items ≤ vec_capacity l.values)
    × (vec_capacity l.values ≡ vec_capacity l.fn.values)

abbrev pub decreases-loop-turn : goal.decreases-loop-turn
decreases-loop-turn g l = vec_len l.turns
