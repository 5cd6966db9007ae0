use Rattle.std.proofs.Common.{◌≡◌, ◌&&◌, not, ap, ◌∙◌, arith}
use Rattle.pot_machine.specs.Slot.{is_void}
use Rattle.pot_machine.specs.Table.{slot_at}
use Rattle.pot_steps.proofs.AheadLemmas.{count_same}
use Rattle.pot_audit.specs.Loose.{is_loose, is_marked}
use Rattle.pot_audit.proofs.loose.loose_slots.Goals as goal

pub returns : goal.returns
returns c =
    let t = c.args.table.now in
    let spot = c.args.spot in
    c.count_unmarked.ensures
    ∙ count_same t.stripes (λ s. not (is_void (slot_at t s spot.column)) && not (is_marked c.deref.result.now s)) (is_loose t c.args.records.now spot.group spot.column)
    (λ s lt. ap (λ b. not (is_void (slot_at t s spot.column)) && not b)
    (ap (λ l. is_marked l s) c.deref.ensures.value ∙ c.in_ok-marks.ensures.each s (omega (arith, lt, c.stripes.ensures.value))))
