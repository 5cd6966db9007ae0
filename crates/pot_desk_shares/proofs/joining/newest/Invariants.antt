use Rattle.pot_desk_shares.specs.Finding.{IsLatest}
use Rattle.pot_desk_shares.specs.Joins.{IsShareWhole}
use Rattle.pot_desk_shares.proofs.joining.newest.Given as goal

abbrev pub invariant-loop-at : goal.invariant-loop-at
invariant-loop-at l = IsLatest l.shares IsShareWhole l.at l.best
