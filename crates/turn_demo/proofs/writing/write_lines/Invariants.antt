use Rattle.std.proofs.Common.{◌+◌}
use Rattle.pot_turn.specs.Passes.{view, IsPassOf}
use Rattle.turn_demo.specs.Books.{WroteLines}
use Rattle.turn_demo.proofs.writing.write_lines.Given as goal

abbrev pub invariant-loop-number : goal.invariant-loop-number
invariant-loop-number g l = IsPassOf l.turn l.pass × WroteLines l.fn.author (l.fn.author + 1) l.number (view l.fn.pass) (view l.pass)
