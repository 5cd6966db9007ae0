use Rattle.std.proofs.Common.{◌≡◌, ◌≤◌, length}
use Rattle.std.specs.Vec.{vec_capacity}
use Rattle.pot_work.proofs.rooms.empty_places.Given as goal

abbrev pub invariant-loop : goal.invariant-loop
invariant-loop g l = (length l.places.items ≡ l.counter) × (l.count ≤ vec_capacity l.places)
