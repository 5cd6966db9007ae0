use Rattle.std.proofs.Common.{◌*◌}
use Rattle.pot_shelves.specs.Opening.{AreDigests}
use Rattle.pot_shelves.proofs.slots.digest_all.Given as goal

abbrev pub invariant-loop-four : goal.invariant-loop-four
invariant-loop-four l = AreDigests (4 * l.four) l.readings l.digests
