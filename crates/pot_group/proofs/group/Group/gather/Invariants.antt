use Rattle.std.proofs.Common.{◌≡◌, IsTrue}
use Rattle.pot_shelves.specs.Shelves.{plain}
use Rattle.pot_group.specs.Group.{with_archives}
use Rattle.pot_group.specs.Lanes.{lanes_of}
use Rattle.pot_group.proofs.LaneReads.{Gathering}
use Rattle.pot_group.proofs.group.Group.gather.Given as goal

abbrev pub invariant-reads : goal.invariant-reads
invariant-reads g l = record {
  same : l.self ≡ with_archives l.fn.self l.self.shelves;
  count : l.lanes.count ≡ l.counter;
  gathering : Gathering (IsTrue g.A.Archive.account.tells) l.fn.self.number l.fn.self.table l.fn.stripe l.fn.column l.counter l.stripe l.column (lanes_of l.lanes)
      (plain g.A.Archive.account.meaning l.fn.self.shelves) (plain g.A.Archive.account.meaning l.self.shelves);
}
