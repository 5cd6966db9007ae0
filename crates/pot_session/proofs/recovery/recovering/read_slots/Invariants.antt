use Rattle.std.proofs.Common.{◌≤◌, ◌+◌, IsTrue, length}
use Rattle.pot_session.specs.Recovering.{GathersBlocks, WasRead}
use Rattle.pot_session.proofs.recovery.recovering.read_slots.Given as goal

abbrev pub invariant-loop-slot : goal.invariant-loop-slot
invariant-loop-slot g l = record {
  gathers : IsTrue g.A.Archive.account.tells → GathersBlocks l.slot (g.A.Archive.account.meaning l.initial.archive) (g.A.Archive.account.meaning l.archive) l.initial.blocks.items l.blocks.items;
  read : IsTrue g.A.Archive.account.tells → WasRead (g.A.Archive.account.meaning l.initial.archive) (g.A.Archive.account.meaning l.archive);
  length : length l.blocks.items ≤ length l.initial.blocks.items + l.slot;
  later : (g.A.Archive.account.meaning l.initial.archive).faults ≤ (g.A.Archive.account.meaning l.archive).faults;
}
