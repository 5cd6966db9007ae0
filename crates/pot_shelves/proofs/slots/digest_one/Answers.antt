use Rattle.std.proofs.Common.{◌+◌, arith, get_or, sym, ◌∙◌}
use Rattle.std.proofs.lemmas.Option.{slice_get-get_or}
use Rattle.pot_shelves.proofs.SlotReads.{digests_more, digests_past, digest_is}
use Rattle.pot_shelves.proofs.slots.digest_one.Goals as goal

pub returns-then-is_held : goal.returns-then-is_held
returns-then-is_held c =
    let at = get_or c.args.readings.now c.args.place c.index-readings-place.result in
    digests_more c.args.place (c.args.place + 1) c.args.readings.now c.args.digests.now at c.digest_of.result (omega arith)
    (slice_get-get_or c.args.readings.now c.args.place c.index-readings-place.result (omega (arith, c.type_inv.readings, c.requires)))
    (λ h. digest_is at.block c.bytes.result.now c.digest_of.result c.bytes.ensures.value c.digest_of.ensures)

pub returns-else-is_held : goal.returns-else-is_held
returns-else-is_held c =
    digests_past c.args.place c.args.readings.now c.args.digests.now (get_or c.args.readings.now c.args.place c.index-readings-place.result)
    (slice_get-get_or c.args.readings.now c.args.place c.index-readings-place.result (omega (arith, c.type_inv.readings, c.requires)))
    (sym c.is_held.ensures ∙ c.if-is_held.false)
