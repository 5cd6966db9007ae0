use Rattle.pot_image.specs.Reading.{reading}
use Rattle.std.proofs.Common.{ap, sym, ◌∙◌, ◌++◌}
use Rattle.pot_image.proofs.Steps.{fails_as, exits, several_begins, several_on, several_fails, several_done, collected}
use Rattle.std.proofs.Common.{append-nil, flat_map}
use Rattle.pot_machine.specs.Column.{homes_of}
use Rattle.pot_image.specs.Tables.{column, columns}
use Rattle.pot_image.proofs.columns.read_columns.Goals as goal

pub loop-init : goal.loop-init
unfolding columns
loop-init c = record { reads = several_begins _ _ _ _ _ c.in_ok-columns.ensures.items; taken = sym (append-nil c.args.taken.now.items) ∙ ap (λ xs. c.args.taken.now.items ++ flat_map homes_of xs) (sym c.in_ok-columns.ensures.items) }

pub returns-in_err-column-clause-reads : goal.returns-in_err-column-clause-reads
returns-in_err-column-clause-reads c = exits _ _ _ _ c.from_residual-in_err-column.ensures.1 (fails_as _ _ _ c.loop.invariant.reads (several_fails _ _ _ _ _ _ c.loop-test.true
    (fails_as _ _ _ (ap (λ xs. reading (column c.args.stripes xs) c.loop.rest.now) c.loop.invariant.taken) c.in_err-column.ensures.reads)))

pub loop-preserved : goal.loop-preserved
loop-preserved c = record {
  reads = sym (several_on _ _ _ _ _ _ _ _ c.loop-test.true (sym (ap (λ xs. reading (column c.args.stripes xs) c.loop.rest.now) c.loop.invariant.taken) ∙ c.in_ok-column.ensures.reads) c.in_ok-push.ensures.items) ∙ c.loop.invariant.reads;
  taken = collected homes_of _ _ _ _ _ _ c.in_ok-column.ensures.taken c.loop.invariant.taken c.in_ok-push.ensures.items;
}

pub returns-clause-reads : goal.returns-clause-reads
returns-clause-reads c = sym c.loop.invariant.reads ∙ several_done _ _ _ _ _ c.loop-test.false
