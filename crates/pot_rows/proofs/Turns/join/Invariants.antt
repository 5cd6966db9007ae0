use Rattle.std.specs.Prelude.{map}
use Rattle.std.specs.Vec.Iter.{into_iter_items}
use Rattle.pot_turn.specs.Passes.{view, turn_of}
use Rattle.pot_rows.specs.Parts.{JoinSofar}
use Rattle.pot_rows.proofs.Turns.join.Given as goal

abbrev pub invariant-loop-at : goal.invariant-loop-at
invariant-loop-at g l =
    JoinSofar l.self.names l.at l.fn.passes l.fn.other l.passes (record { names = map turn_of (into_iter_items l.others); views = map view (into_iter_items l.others) })
