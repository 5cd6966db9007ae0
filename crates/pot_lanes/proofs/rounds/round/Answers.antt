use Rattle.std.proofs.Common.{refl}
use Rattle.pot_lanes.proofs.Four.{at_is}
use Rattle.pot_lanes.proofs.rounds.round.Goals as goal

pub returns : goal.returns
returns c = λ l h.
    let a = at_is _ _ c.add.ensures l h in
    let e = at_is _ _ c.add-2.ensures l h in
    let first = at_is _ _ c.temp1-temp1.ensures l h in
    let second = at_is _ _ c.temp2-temp2.ensures l h in
    rw (a, e, first, second) refl
