use Rattle.std.proofs.Common.{◌≡◌}
use Rattle.pot_turn.specs.Passes.{view, turn_of}
use Rattle.pot_turn.proofs.turning.Turn.enter.Given as goal

abbrev pub invariant-loop : goal.invariant-loop
invariant-loop g l =
    (goal.iterator-loop g).can_next l.iterator' × (goal.iterator-loop g).is_finite l.iterator'
    × (turn_of l.pass ≡ turn_of l.fn.pass) × (view l.pass ≡ view l.fn.pass)
