use Rattle.std.specs.Prelude.{◌≡◌, ◌+◌, ◌≤◌, ◌++◌, length, map, reverse}
use Rattle.std.specs.Vec.{vec_len, vec_capacity}
use Rattle.pot_turn.specs.Passes.{made_with}
use Rattle.pot_rows.specs.Ends.{AreFirstOfTurns}
use Rattle.pot_rows.proofs.ends.make_turns.Given as goal

abbrev pub invariant-loop-value : goal.invariant-loop-value
invariant-loop-value g l =
    AreFirstOfTurns g.T.Kept.log g.T.Kept.origin l.turns.items l.passes.items
    × (reverse l.fn.values.items ≡ map made_with l.turns.items ++ reverse l.values.items)
    × (length l.values.items + length l.turns.items ≤ vec_capacity l.turns)
    × (length l.values.items + length l.passes.items ≤ vec_capacity l.passes)
    × (vec_capacity l.values ≡ vec_capacity l.fn.values)

abbrev pub decreases-loop-value : goal.decreases-loop-value
decreases-loop-value g l = vec_len l.values
