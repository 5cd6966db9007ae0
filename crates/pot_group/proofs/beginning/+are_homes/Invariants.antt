use Rattle.std.proofs.Common.{length}
use Rattle.pot_group.proofs.beginning.+are_homes.Given as goal

abbrev pub decreases-are_homes : goal.decreases-are_homes
decreases-are_homes g l = length l.columns.now
