use Rattle.std.proofs.Common.{◌≡◌, ◌%◌, refl, arith}
use Rattle.pot_lanes.proofs.Four.{at_is, in_window}
use Rattle.pot_lanes.proofs.rounds.next_word.Goals as goal

pub returns-clause-value : goal.returns-clause-value
returns-clause-value c = λ l h.
    let place : c.args.place % 16 ≡ c.args.place = omega arith in
    let word = at_is _ _ c.add-word.ensures l h in
    let sum = at_is _ _ c.add.ensures l h in
    let first = at_is _ _ c.add-sum.ensures l h in
    let late = at_is _ _ c.small_sigma1.ensures l h in
    let early = at_is _ _ c.small_sigma0.ensures l h in
    rw (word, sum, first, late, early, place, in_window l, in_window l, in_window l, in_window l) refl
