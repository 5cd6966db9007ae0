use Rattle.std.proofs.Common.{◌≤◌, IsTrue, vec_capacity}
use Rattle.pot_machine.specs.Table.{width}
use Rattle.pot_shelves.specs.Shelves.{plain}
use Rattle.pot_shelves.specs.Opening.{ReadsColumns, AreDigests, OpensColumns}
use Rattle.pot_shelves.proofs.opening.open_columns.Given as goal

abbrev pub invariant-loop-column : goal.invariant-loop-column
invariant-loop-column g l = record {
  reads : ReadsColumns (IsTrue g.A.Archive.account.tells) (width l.fn.table) l.stripe l.fn.table l.reads.readings (plain g.A.Archive.account.meaning l.fn.archives) (plain g.A.Archive.account.meaning l.archives);
  opens : OpensColumns (IsTrue g.A.Archive.account.tells) l.column l.stripe l.fn.table l.table l.fn.log.items l.log.items l.shortage l.sums.first l.sums.second (plain g.A.Archive.account.meaning l.fn.archives) (reads.at l.column);
  digests : AreDigests 20 l.reads.readings l.reads.digests;
  capacity : vec_capacity l.fn.log ≤ vec_capacity l.log;
}
