use Rattle.pot_shelves.specs.Opening.{AreDigests}
use Rattle.pot_shelves.proofs.slots.digest_singly.Given as goal

abbrev pub invariant-loop-next : goal.invariant-loop-next
invariant-loop-next l = AreDigests l.place l.readings l.fn.digests → AreDigests l.next l.readings l.digests
