use Rattle.std.proofs.Common.{◌≡◌, ℕ, ◌<◌, get_or, length}
use Rattle.pot_gf.specs.Lagrange.{lagrange_weight}
use Rattle.pot_split.proofs.threshold.weights_of.Given as goal

abbrev pub invariant-loop-i : goal.invariant-loop-i
invariant-loop-i l =
    ((k : ℕ) → k < l.i → get_or l.weights k 0 ≡ lagrange_weight l.points (get_or l.points k 0)) × (length l.weights ≡ 16)
