use Rattle.std.proofs.Common.{◌≡◌, ◌≤◌, length, []}
use Rattle.std.specs.List.{All}
use Rattle.std.specs.Vec.{vec_capacity}
use Rattle.pot_work.proofs.rooms.rooms_to_finish.Given as goal

abbrev pub invariant-loop : goal.invariant-loop
invariant-loop g l = (length l.rooms.items ≡ l.counter) × (l.workers ≤ vec_capacity l.rooms) × All (λ room. (room.items ≡ []) × (l.count ≤ vec_capacity room)) l.rooms.items
