use Rattle.std.proofs.Common.{◌≡◌, ◌+◌, ◌≤◌, length, take}
use Rattle.pot_chains.specs.Listed.{IsListed}
use Rattle.pot_chains.specs.Steps.{IsLonger}
use Rattle.pot_chains.proofs.search.longer.Given as goal

abbrev pub invariant-loop-chain : goal.invariant-loop-chain
invariant-loop-chain l =
    IsListed (IsLonger l.pointers l.index l.bits (take l.chain-index l.chains)) l.found.items
    × (l.count ≡ l.fn.count + length l.found.items) × (l.count ≤ l.limit)
