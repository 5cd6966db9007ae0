use Rattle.std.proofs.Common.{take}
use Rattle.pot_index.proofs.EndingLemmas.{SoFar}
use Rattle.pot_index.proofs.ending.end_of.Given as goal

abbrev pub invariant-loop-at : goal.invariant-loop-at
invariant-loop-at l = SoFar l.job l.name (take l.at l.log) l.ended
