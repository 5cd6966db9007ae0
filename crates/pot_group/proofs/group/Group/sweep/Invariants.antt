use Rattle.std.proofs.Common.{IsTrue, drop}
use Rattle.pot_group.specs.Group.{view_of}
use Rattle.pot_group.specs.Lanes.{lanes_of}
use Rattle.pot_group.proofs.LaneNotes.{Noted}
use Rattle.pot_group.proofs.group.Group.sweep.Given as goal

abbrev pub invariant-loop-at : goal.invariant-loop-at
invariant-loop-at g l =
    Noted (IsTrue g.A.Archive.account.tells) l.fn.job l.fn.stripe l.fn.column l.at l.swept (drop l.at (lanes_of l.lanes))
    (view_of g.A.Archive.account.meaning l.fn.self) (view_of g.A.Archive.account.meaning l.self)
