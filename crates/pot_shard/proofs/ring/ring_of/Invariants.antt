use Rattle.std.proofs.Common.{◌≡◌, ◌<◌, ℕ, get_or}
use Rattle.pot_shard.specs.Rings.{ring}
use Rattle.pot_shard.proofs.ring.ring_of.Given as goal

abbrev pub invariant-loop-place : goal.invariant-loop-place
invariant-loop-place l = (k : ℕ) → k < l.place → get_or l.pointers k 0 ≡ get_or (ring l.names l.bits) k 0
