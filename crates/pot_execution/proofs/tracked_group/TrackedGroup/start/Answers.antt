use Rattle.std.proofs.Common.{IsTrue}
use Rattle.pot_execution.proofs.ExecutionLemmas.{begun}
use Rattle.pot_execution.proofs.tracked_group.TrackedGroup.start.Goals as goal

pub invariant_of-result : goal.invariant_of-result
invariant_of-result g c = begun (IsTrue g.A.Archive.account.tells) g.A.Archive.account.meaning c.args.number c.args.table c.args.shelves.items c.in-Ok.group c.requires.shelves c.in-Ok.ensures.begins
