use Rattle.std.proofs.Common.{◌≡◌, ◌<◌, ℕ}
use Rattle.pot_doubles.specs.Rooms.{means_in}
use Rattle.pot_session.proofs.generating.are_sound.Given as goal

abbrev pub invariant-loop-number : goal.invariant-loop-number
invariant-loop-number l = (q : ℕ) → q < l.number → (means_in l.room q).faults ≡ 0
