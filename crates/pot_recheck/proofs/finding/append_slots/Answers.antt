use Rattle.std.proofs.Common.{arith, ◌≡◌, ◌++◌, ◌*◌, ◌∷◌, [], take, drop, ap, ◌∙◌}
use Rattle.pot_machine.specs.Table.{width}
use Rattle.pot_recheck.proofs.Copying.{slot_copied}
use Rattle.pot_recheck.proofs.finding.append_slots.Goals as goal

pub loop-column-preserved : goal.loop-column-preserved
loop-column-preserved c =
    slot_copied c.args.table.now c.args.stripe c.loop-column.column _ _ _ c.parity.ensures.rules c.requires (omega (arith, c.loop-column-test.true, c.data_columns.ensures.value, c.parity.ensures.value)) c.loop-column.invariant
    (c.in_ok-push.ensures.items ∙ ap (λ x. c.loop-column.slots.items ++ x ∷ []) c.slot.ensures)

pub returns : goal.returns
returns c =
    c.loop-column.invariant
    ∙ ap (λ n. c.args.slots.now.items ++ take n (drop (c.args.stripe * width c.args.table.now) c.args.table.now.slots))
    (let e : c.loop-column.column ≡ width c.args.table.now = omega (arith, c.loop-column-test.false, c.loop-column.auto.column-end, c.data_columns.ensures.value, c.parity.ensures.value) in e)
