use Rattle.std.proofs.Common.{◌≤◌, ◌*◌, IsTrue, length, vec_capacity}
use Rattle.pot_shelves.specs.Shelves.{plain}
use Rattle.pot_shelves.specs.Opening.{Opens}
use Rattle.pot_shelves.proofs.OpeningAll.{LaterStay}
use Rattle.pot_shelves.proofs.opening.open_all.Given as goal

abbrev pub invariant-loop-stripe : goal.invariant-loop-stripe
invariant-loop-stripe g l = record {
  opens : Opens (IsTrue g.A.Archive.account.tells) l.stripe l.fn.table l.table l.log.items (plain g.A.Archive.account.meaning l.fn.archives) (plain g.A.Archive.account.meaning l.archives);
  later : LaterStay l.stripe l.fn.table l.table;
  bound : length l.log.items ≤ 20 * l.stripe;
  capacity : 262144 ≤ vec_capacity l.log;
}
