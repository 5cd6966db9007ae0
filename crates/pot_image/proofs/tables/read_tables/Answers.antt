use Rattle.pot_image.specs.Reading.{reading}
use Rattle.std.proofs.Common.{ap, sym, ◌∙◌, []}
use Rattle.pot_image.proofs.Steps.{fails_as, exits, several_begins, several_on, several_fails, several_done, collected}
use Rattle.std.proofs.Common.{flat_map}
use Rattle.pot_machine.specs.Table.{archives_in}
use Rattle.pot_image.specs.Tables.{table, tables}
use Rattle.pot_image.proofs.tables.read_tables.Goals as goal

pub loop-init : goal.loop-init
unfolding tables
loop-init c = record { reads = several_begins _ _ _ _ _ c.in_ok-tables.ensures.items; taken = c.new-taken.ensures.items ∙ ap (flat_map archives_in) (sym c.in_ok-tables.ensures.items) }

pub returns-in_err-table : goal.returns-in_err-table
returns-in_err-table c = exits _ _ _ _ c.from_residual-in_err-table.ensures.1 (fails_as _ _ _ c.loop.invariant.reads (several_fails _ _ _ _ _ _ c.loop-test.true
    (fails_as _ _ _ (ap (λ xs. reading (table c.args.rack.now xs) c.loop.rest.now) c.loop.invariant.taken) c.in_err-table.ensures.reads)))

pub loop-preserved : goal.loop-preserved
loop-preserved c = record {
  reads = sym (several_on _ _ _ _ _ _ _ _ c.loop-test.true (sym (ap (λ xs. reading (table c.args.rack.now xs) c.loop.rest.now) c.loop.invariant.taken) ∙ c.in_ok-table.ensures.reads) c.in_ok-push.ensures.items) ∙ c.loop.invariant.reads;
  taken = collected archives_in [] _ _ _ _ _ c.in_ok-table.ensures.taken c.loop.invariant.taken c.in_ok-push.ensures.items;
}

pub returns : goal.returns
returns c = sym c.loop.invariant.reads ∙ several_done _ _ _ _ _ c.loop-test.false
