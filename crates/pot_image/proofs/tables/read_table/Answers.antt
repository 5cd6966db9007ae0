use Rattle.std.proofs.Common.{ap, sym, ◌∙◌, ◌++◌}
use Rattle.pot_image.proofs.Once.{ok_then}
use Rattle.pot_image.proofs.Steps.{fails_then, fails_on, exits, done_as}
use Rattle.pot_machine.specs.Table.{archives_in}
use Rattle.pot_image.specs.Tables.{table}
use Rattle.pot_image.proofs.SlotRules.{slots_are_allowed}
use Rattle.pot_image.proofs.ColumnRules.{columns_kept}
use Rattle.pot_image.proofs.TableRules.{cursor_placed, table_rules}
use Rattle.pot_image.proofs.tables.read_table.Goals as goal

pub returns-in_err-cursor-clause-reads : goal.returns-in_err-cursor-clause-reads
unfolding table
returns-in_err-cursor-clause-reads c = exits _ _ _ _ c.from_residual.ensures.1 (fails_then _ _ _ _ c.in_err-cursor.ensures)

pub returns-in_err-columns-clause-reads : goal.returns-in_err-columns-clause-reads
unfolding table
returns-in_err-columns-clause-reads c = exits _ _ _ _ c.from_residual-in_err-columns.ensures.1 (fails_on _ _ _ _ _ _ c.in_ok-cursor.ensures (fails_then _ _ _ _ c.in_err-columns.ensures.reads))

pub returns-in_err-slots-clause-reads : goal.returns-in_err-slots-clause-reads
unfolding table
returns-in_err-slots-clause-reads c = exits _ _ _ _ c.from_residual-in_err-slots.ensures.1 (fails_on _ _ _ _ _ _ c.in_ok-cursor.ensures (fails_on _ _ _ _ _ _ c.in_ok-columns.ensures.reads (fails_then _ _ _ _ c.in_err-slots.ensures.reads)))

pub returns-clause-reads : goal.returns-clause-reads
unfolding table
returns-clause-reads c = ok_then _ _ _ _ _ _ c.in_ok-cursor.ensures (ok_then _ _ _ _ _ _ c.in_ok-columns.ensures.reads (ok_then _ _ _ _ _ _ c.in_ok-slots.ensures.reads (done_as _ _ _ (sym c.in_ok-table.ensures))))

pub returns-clause-taken : goal.returns-clause-taken
returns-clause-taken c = c.in_ok-columns.ensures.taken ∙ ap (λ t. c.args.taken.now.items ++ archives_in t) (sym c.in_ok-table.ensures)

pub from_parts-requires : goal.from_parts-requires
from_parts-requires c = (let placed = cursor_placed c.args.rack.now c.args.bytes.now c.in_ok-cursor.after_cursor.now c.in_ok-cursor.cursor c.requires c.in_ok-cursor.ensures in
    let kept = columns_kept _ _ _ _ _ _ c.in_ok-columns.ensures.reads in
    let allowed = slots_are_allowed _ _ _ _ _ _ _ c.requires.columns.0 c.in_ok-slots.ensures.reads in
    (table_rules _ _ _ _ _ c.requires placed kept allowed.0 allowed.1).rules)
