use Rattle.std.specs.Prelude.{length, map, ◌≤◌}
use Rattle.std.specs.Vec.{vec_capacity}
use Rattle.pot_turn.specs.Passes.{view, turn_of}
use Rattle.pot_rows.specs.Parts.{SplitSofar}
use Rattle.pot_rows.proofs.Turns.split.Given as goal

abbrev pub invariant-loop-at : goal.invariant-loop-at
invariant-loop-at g l =
    SplitSofar l.self.names l.at l.parts l.fn.passes l.passes (record { names = map turn_of l.given.items; views = map view l.given.items })
    × (length l.self.names ≤ vec_capacity l.given)
