use Rattle.std.proofs.Common.{◌≡◌, [], ◌∷◌, map}
use Rattle.std.specs.List.{range_with_len}
use Rattle.pot_chains.proofs.levels.singles.Given as goal

abbrev pub invariant-loop-position : goal.invariant-loop-position
invariant-loop-position l = l.found.items ≡ map (λ p. p ∷ []) (range_with_len 0 l.position)
