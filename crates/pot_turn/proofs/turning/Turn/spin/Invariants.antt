use Rattle.std.proofs.Common.{◌≡◌}
use Rattle.pot_turn.specs.Passes.{view, turn_of}
use Rattle.pot_turn.proofs.turning.Turn.spin.Given as goal

abbrev pub invariant-loop : goal.invariant-loop
invariant-loop g l = (turn_of l.pass ≡ turn_of l.fn.pass) × (view l.pass ≡ view l.fn.pass)
