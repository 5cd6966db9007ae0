use Rattle.std.proofs.Common.{arith, ◌≡◌, ◌+◌, ap₂, ◌∙◌}
use Rattle.pot_machine.specs.Table.{width}
use Rattle.pot_recheck.proofs.SlotLemmas.{made_live}
use Rattle.pot_recheck.proofs.finding.make_live.Goals as goal

pub returns-then-column-width : goal.returns-then-column-width
returns-then-column-width c =
    let wide : c.from.result ≡ width c.args.table.now = c.from.ensures ∙ ap₂ (λ a b. a + b) c.data_columns.ensures.value c.parity.ensures.value in
    made_live c.args.table.now c.args.stripe c.args.column _ _ c.args.slots.now _ _ c.parity.ensures.rules c.requires wide c.from-then-column-width.ensures
    (omega (arith, c.if-stripe-stripes.true, c.stripes.ensures.value)) (omega (arith, c.if-column-width.true, c.data_columns.ensures.value, c.parity.ensures.value)) c.live.ensures
