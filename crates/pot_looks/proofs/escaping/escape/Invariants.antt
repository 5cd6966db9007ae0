use Rattle.std.proofs.Common.{◌≡◌, take}
use Rattle.pot_looks.specs.Escapes.{escaped}
use Rattle.pot_looks.proofs.escaping.escape.Given as goal

abbrev pub invariant-loop-at : goal.invariant-loop-at
invariant-loop-at l = l.whole.items ≡ escaped (take l.at l.text)
