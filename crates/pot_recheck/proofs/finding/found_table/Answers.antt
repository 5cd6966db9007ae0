use Rattle.std.proofs.Common.{sym, subst, ◌∙◌}
use Rattle.pot_machine.specs.Table.{Table}
use Rattle.pot_machine.specs.Rules.{IsTable}
use Rattle.pot_recheck.proofs.TableLemmas.{still_table, made_of, table_found}
use Rattle.pot_recheck.proofs.finding.found_table.Goals as goal

pub from_parts-requires : goal.from_parts-requires
from_parts-requires c =
    subst (λ (t : Table). IsTable t)
    (sym (made_of c.args.table.now c.in_ok-slots.slots.items _ _ _ _ c.parity.ensures.rules c.stripes.ensures.value c.cursor.ensures.value (c.in_ok-columns.ensures.items ∙ c.columns.ensures.value) c.parity.ensures.value))
    (still_table c.args.found.now c.args.group c.args.table.now c.in_ok-slots.slots.items c.parity.ensures.rules c.in_ok-slots.ensures)

pub returns : goal.returns
returns c =
    table_found c.args.found.now c.args.group c.args.table.now _ c.in_ok-slots.slots.items c.from_parts.result c.in_ok-slots.ensures
    (made_of c.args.table.now c.in_ok-slots.slots.items _ _ _ _ c.parity.ensures.rules c.stripes.ensures.value c.cursor.ensures.value (c.in_ok-columns.ensures.items ∙ c.columns.ensures.value) c.parity.ensures.value)
    c.from_parts.ensures
