use Rattle.std.proofs.Common.{length}
use Rattle.pot_tree.proofs.guessing.unspelled.Given as goal

abbrev pub decreases-loop-text : goal.decreases-loop-text
decreases-loop-text l = length l.text
