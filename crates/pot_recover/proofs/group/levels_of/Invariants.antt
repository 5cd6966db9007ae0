use Rattle.std.proofs.Common.{ℕ, take}
use Rattle.pot_recover.specs.Groups.{parts_of, AreLevelsOf}
use Rattle.pot_recover.proofs.group.levels_of.Given as goal

abbrev pub invariant-loop-part : goal.invariant-loop-part
invariant-loop-part l = (bits : ℕ) → AreLevelsOf (parts_of bits (take l.part-index l.parts)) l.levels.items
