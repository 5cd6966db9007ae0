use Rattle.pot_shelves.proofs.SlotReads.{digests_four}
use Rattle.pot_shelves.proofs.slots.digest_four.Goals as goal

pub returns : goal.returns
returns c =
    digests_four c.args.place c.args.readings.now c.args.digests.now c.digests_of_four.result _ c.index-readings-place.result c.index-readings-place-2.result c.index-readings-place-3.result c.index-readings-place-4.result
    c.type_inv.readings c.requires c.digests_of_four.ensures
