use Rattle.pot_rows.specs.Ties.{TiedSofar}
use Rattle.pot_rows.proofs.Turns.tie.Given as goal

abbrev pub invariant-loop-at : goal.invariant-loop-at
invariant-loop-at g l = TiedSofar l.self.names l.at l.fn.mine l.fn.others l.mine l.others
