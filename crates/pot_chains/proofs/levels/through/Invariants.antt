use Rattle.std.proofs.Common.{◌≡◌, ◌+◌, ◌-◌, ◌≤◌, List, ℕ, length}
use Rattle.pot_chains.specs.Listed.{IsListed}
use Rattle.pot_chains.specs.Levels.{IsPath, IsPathBelow}
use Rattle.pot_chains.proofs.levels.through.Given as goal

abbrev pub invariant-loop-t : goal.invariant-loop-t
invariant-loop-t l =
    IsListed (IsPath l.bits l.levels (l.t - 1)) l.chains.items
    × ((all : List (List ℕ)) × IsListed (IsPathBelow l.bits l.levels l.t) all × (l.count + length l.fn.firsts.items ≡ l.fn.count + length all))
    × (l.count ≤ l.limit)
