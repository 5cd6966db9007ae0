use Rattle.std.proofs.Common.{◌≡◌, map, take, bit_xor}
use Rattle.pot_joins.proofs.share.turn.Given as goal

abbrev pub invariant-loop-i : goal.invariant-loop-i
invariant-loop-i l = take l.i l.out ≡ map (λ x. bit_xor x l.at) (take l.i l.points)
