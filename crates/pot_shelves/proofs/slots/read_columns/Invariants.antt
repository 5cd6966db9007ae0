use Rattle.std.proofs.Common.{IsTrue}
use Rattle.pot_shelves.specs.Shelves.{plain}
use Rattle.pot_shelves.specs.Opening.{ReadsColumns}
use Rattle.pot_shelves.proofs.slots.read_columns.Given as goal

abbrev pub invariant-loop-column : goal.invariant-loop-column
invariant-loop-column g l = ReadsColumns (IsTrue g.A.Archive.account.tells) l.column l.stripe l.table l.readings (plain g.A.Archive.account.meaning l.fn.archives) (plain g.A.Archive.account.meaning l.archives)
