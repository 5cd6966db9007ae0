use Rattle.pot_desk_shares.specs.Finding.{IsLatest, IsOfComplete}
use Rattle.pot_desk_shares.proofs.joining.newest_complete.Given as goal

abbrev pub invariant-loop-at : goal.invariant-loop-at
invariant-loop-at l = IsLatest l.shares (IsOfComplete l.shares) l.at l.best
