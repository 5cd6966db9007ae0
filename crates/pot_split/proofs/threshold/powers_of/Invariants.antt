use Rattle.std.proofs.Common.{◌≡◌, ℕ, ◌<◌, ◌+◌, get_or, length}
use Rattle.pot_gf.specs.Field.{power}
use Rattle.pot_split.proofs.threshold.powers_of.Given as goal

abbrev pub invariant-loop-t : goal.invariant-loop-t
invariant-loop-t l =
    ((k : ℕ) → k < l.t → get_or l.powers k 0 ≡ power l.point (k + 1)) × (l.power ≡ power l.point l.t) × (length l.powers ≡ 15)
