use Rattle.std.proofs.Common.{◌≡◌, ◌≤◌, ◌+◌, IsTrue, length, add-one, ap, subst, arith, ◌∙◌}
use Rattle.std.proofs.lemmas.Option.{slice_get-get_or}
use Rattle.pot_machine.specs.Table.{Table, width}
use Rattle.pot_shelves.specs.Shelves.{plain}
use Rattle.pot_shelves.specs.Opening.{OpensColumns}
use Rattle.pot_shelves.proofs.OpeningColumns.{columns_none, columns_more, columns_length}
use Rattle.pot_shelves.proofs.SlotReads.{reads_later}
use Rattle.pot_shelves.proofs.opening.open_columns.Goals as goal

pub loop-column-init : goal.loop-column-init
loop-column-init g c = record {
  reads = c.read_stripe.ensures.reads;
  opens = rw (c.zero.ensures.first, c.zero.ensures.second, c.read_stripe.ensures.reads.begins) (columns_none (IsTrue g.A.Archive.account.tells) c.args.stripe c.args.table.now c.args.log.now.items (plain g.A.Archive.account.meaning c.args.archives.now));
  digests = c.read_stripe.ensures.digests;
  capacity = omega arith;
}

pub open_slot-part-requires-clause-range : goal.open_slot-part-requires-clause-range
open_slot-part-requires-clause-range g c =
    let stripes : c.loop-column.table.stripes ≡ c.args.table.now.stripes = ap {A = Table} (λ x. x.stripes) c.loop-column.invariant.opens.changes.shape in
    let columns : width c.loop-column.table ≡ width c.args.table.now = ap width c.loop-column.invariant.opens.changes.shape in
    (omega arith, omega arith)

pub open_slot-part-requires-clause-room : goal.open_slot-part-requires-clause-room
open_slot-part-requires-clause-room g c =
    let l : length c.loop-column.log.items ≤ length c.args.log.now.items + c.loop-column.column = columns_length _ _ _ _ _ _ _ _ _ _ _ _ c.loop-column.invariant.opens in
    omega arith

pub open_slot-part-requires-clause-digest : goal.open_slot-part-requires-clause-digest
open_slot-part-requires-clause-digest g c = λ h.
    c.loop-column.invariant.digests.right c.loop-column.column _ _ (omega (arith, c.data_columns-data_columns.ensures.rules.size.data_columns, c.data_columns-data_columns.ensures.rules.size.parity))
    (slice_get-get_or c.loop-column.reads.readings c.loop-column.column c.index-reads-place.result (omega (arith, c.loop-column.invariant.reads.places, c.data_columns-data_columns.ensures.rules.size.data_columns, c.data_columns-data_columns.ensures.rules.size.parity)))
    (slice_get-get_or c.loop-column.reads.digests c.loop-column.column _ (omega (arith, c.loop-column.invariant.digests.places, c.data_columns-data_columns.ensures.rules.size.data_columns, c.data_columns-data_columns.ensures.rules.size.parity))) h

pub loop-column-preserved : goal.loop-column-preserved
loop-column-preserved g c = record {
  reads = c.loop-column.invariant.reads;
  opens = rw (add-one, c.add_part-shortage.ensures)
      (columns_more _ _ _ _ _ _ _ _ _ _ _ _ _ _ _ _ _ _ _ (omega arith) c.loop-column.invariant.opens
      (c.open_slot-part.ensures.opens g.A.Archive.account.tells _ _
      (reads_later _ _ _ _ _ _ _ _ _ _ _ _ _ _ _ c.loop-column.invariant.opens (omega arith)
      (c.loop-column.invariant.reads.reads c.loop-column.column _ (omega arith) (slice_get-get_or c.loop-column.reads.readings c.loop-column.column c.index-reads-place.result (omega (arith, c.loop-column.invariant.reads.places, c.data_columns-data_columns.ensures.rules.size.data_columns, c.data_columns-data_columns.ensures.rules.size.parity))))))
      (rw c.data_columns-data_columns.ensures.value at c.add_block.ensures.first) (λ two. rw c.data_columns-data_columns.ensures.value at (c.add_block.ensures.second (c.parity-parity_columns.ensures.value ∙ two))));
  digests = c.loop-column.invariant.digests;
  capacity = omega arith;
}

pub returns-clause-opens : goal.returns-clause-opens
returns-clause-opens g c =
    let all : c.loop-column.column ≡ width c.args.table.now = omega arith in
    subst (λ b. OpensColumns (IsTrue g.A.Archive.account.tells) (width c.args.table.now) c.args.stripe c.args.table.now c.loop-column.table c.args.log.now.items c.loop-column.log.items c.loop-column.shortage c.loop-column.sums.first c.loop-column.sums.second
    (plain g.A.Archive.account.meaning c.args.archives.now) b) c.loop-column.invariant.reads.ends
    (subst (λ n. OpensColumns (IsTrue g.A.Archive.account.tells) n c.args.stripe c.args.table.now c.loop-column.table c.args.log.now.items c.loop-column.log.items c.loop-column.shortage c.loop-column.sums.first c.loop-column.sums.second
    (plain g.A.Archive.account.meaning c.args.archives.now) (c.loop-column.invariant.reads.at n)) all c.loop-column.invariant.opens)

pub returns-clause-capacity : goal.returns-clause-capacity
returns-clause-capacity g c = c.loop-column.invariant.capacity
