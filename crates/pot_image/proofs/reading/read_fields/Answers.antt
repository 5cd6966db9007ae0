use Rattle.pot_image.specs.Reading.{reading}
use Rattle.std.proofs.Common.{ap, sym, subst, ◌∙◌}
use Rattle.pot_image.proofs.Once.{ok_then, done_reads}
use Rattle.pot_image.proofs.Steps.{fails_then, fails_on, fails_as, exits}
use Rattle.pot_image.specs.Images.{image}
use Rattle.pot_image.proofs.HeadRules.{head_kept}
use Rattle.pot_image.proofs.TableRules.{tables_kept}
use Rattle.pot_image.specs.Records.{records}
use Rattle.pot_image.specs.Rules.{AreTables}
use Rattle.pot_image.proofs.reading.read_fields.Goals as goal

pub read_tables-requires : goal.read_tables-requires
read_tables-requires c = head_kept _ _ _ _ c.in_ok-head.ensures

pub read_records-requires-clause-rack : goal.read_records-requires-clause-rack
read_records-requires-clause-rack c = head_kept _ _ _ _ c.in_ok-head.ensures

pub read_records-requires-clause-tables : goal.read_records-requires-clause-tables
read_records-requires-clause-tables c = subst (AreTables c.in_ok-head.head.rack) (sym c.deref.ensures.value) (tables_kept _ _ _ _ (head_kept _ _ _ _ c.in_ok-head.ensures) c.in_ok-tables.ensures)

pub read_group_logs-requires : goal.read_group_logs-requires
read_group_logs-requires c = head_kept _ _ _ _ c.in_ok-head.ensures

pub returns-in_err-head : goal.returns-in_err-head
unfolding image
returns-in_err-head c = exits _ _ _ _ c.from_residual.ensures.1 (fails_then _ _ _ _ c.in_err-head.ensures)

pub returns-in_err-tables : goal.returns-in_err-tables
unfolding image
returns-in_err-tables c = exits _ _ _ _ c.from_residual-in_err-tables.ensures.1 (fails_on _ _ _ _ _ _ c.in_ok-head.ensures (fails_then _ _ _ _ c.in_err-tables.ensures))

pub returns-in_err-records : goal.returns-in_err-records
unfolding image
returns-in_err-records c = exits _ _ _ _ c.from_residual-in_err-records.ensures.1 (fails_on _ _ _ _ _ _ c.in_ok-head.ensures (fails_on _ _ _ _ _ _ c.in_ok-tables.ensures (fails_then _ _ _ _ (fails_as _ _ _ (ap (λ ts. reading (records c.args.format c.in_ok-head.head.rack ts) c.in_ok-tables.after_tables.now) c.deref.ensures.value) c.in_err-records.ensures))))

pub returns-in_err-group_logs : goal.returns-in_err-group_logs
unfolding image
returns-in_err-group_logs c = exits _ _ _ _ c.from_residual-in_err-group_logs.ensures.1 (fails_on _ _ _ _ _ _ c.in_ok-head.ensures (fails_on _ _ _ _ _ _ c.in_ok-tables.ensures (fails_on _ _ _ _ _ _ (sym (ap (λ ts. reading (records c.args.format c.in_ok-head.head.rack ts) c.in_ok-tables.after_tables.now) c.deref.ensures.value) ∙ c.in_ok-records.ensures) (fails_then _ _ _ _ c.in_err-group_logs.ensures))))

pub returns-in_err-index_log : goal.returns-in_err-index_log
unfolding image
returns-in_err-index_log c = exits _ _ _ _ c.from_residual-in_err-index_log.ensures.1 (fails_on _ _ _ _ _ _ c.in_ok-head.ensures (fails_on _ _ _ _ _ _ c.in_ok-tables.ensures (fails_on _ _ _ _ _ _ (sym (ap (λ ts. reading (records c.args.format c.in_ok-head.head.rack ts) c.in_ok-tables.after_tables.now) c.deref.ensures.value) ∙ c.in_ok-records.ensures) (fails_on _ _ _ _ _ _ c.in_ok-group_logs.ensures (fails_then _ _ _ _ c.in_err-index_log.ensures)))))

pub returns : goal.returns
unfolding image
returns c = ok_then _ _ _ _ _ _ c.in_ok-head.ensures (ok_then _ _ _ _ _ _ c.in_ok-tables.ensures (ok_then _ _ _ _ _ _ (sym (ap (λ ts. reading (records c.args.format c.in_ok-head.head.rack ts) c.in_ok-tables.after_tables.now) c.deref.ensures.value) ∙ c.in_ok-records.ensures) (ok_then _ _ _ _ _ _ c.in_ok-group_logs.ensures (ok_then _ _ _ _ _ _ c.in_ok-index_log.ensures (done_reads _ _)))))
