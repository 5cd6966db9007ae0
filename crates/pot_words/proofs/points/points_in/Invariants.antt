use Rattle.std.proofs.Common.{◌≤◌, ◌+◌, length, decimal}
use Rattle.pot_words.proofs.ListLemmas.{IsReading, parts}
use Rattle.pot_words.proofs.points.points_in.Given as goal

abbrev pub invariant-loop-piece : goal.invariant-loop-piece
invariant-loop-piece l = IsReading decimal (λ p. p ≤ l.fn.most) (λ p. p) 1 (parts l.fn.text) l.piece-iterator l.points.items l.next × (length l.points.items + 1 ≤ l.next)
