use Rattle.std.proofs.Common.{◌≡◌, IsSome, length}
use Rattle.pot_work.specs.Works.{AreFresh}
use Rattle.turn_tests.proofs.work.squares.Given as goal

abbrev pub invariant-loop-number : goal.invariant-loop-number
invariant-loop-number l = (length l.jobs.items ≡ l.number) × AreFresh (λ j. IsSome j.square) l.jobs.items
