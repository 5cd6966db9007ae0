use Rattle.std.proofs.Common.{◌≡◌, take, drop, ◌++◌}
use Rattle.pot_bytes.specs.Sums.{xor}
use Rattle.pot_bytes.specs.Weighted.{scaled}
use Rattle.pot_bytes.proofs.weighted.add_weighted.Given as goal

abbrev pub invariant-loop-i : goal.invariant-loop-i
invariant-loop-i l = take l.i l.into ++ xor (drop l.i l.into) (drop l.i (scaled l.weight l.from)) ≡ xor l.initial.into (scaled l.weight l.from)
