use Rattle.std.proofs.Common.{◌≡◌, take, drop, ◌++◌}
use Rattle.pot_bytes.specs.Sums.{xor}
use Rattle.pot_bytes.proofs.block.xor_into.Given as goal

abbrev pub invariant-loop-i : goal.invariant-loop-i
invariant-loop-i l = take l.i l.into ++ xor (drop l.i l.into) (drop l.i l.from) ≡ xor l.initial.into l.from
