use Rattle.pot_shelves.proofs.SlotReads.{digests_none}
use Rattle.pot_shelves.proofs.slots.digest_all.Goals as goal

pub loop-four-init : goal.loop-four-init
loop-four-init c = digests_none c.args.readings.now c.args.digests.now c.told-digests
