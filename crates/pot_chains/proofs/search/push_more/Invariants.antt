use Rattle.std.proofs.Common.{◌≡◌, ◌++◌, map, take}
use Rattle.pot_chains.specs.Steps.{with_candidate}
use Rattle.pot_chains.proofs.search.push_more.Given as goal

abbrev pub invariant-loop-candidate : goal.invariant-loop-candidate
invariant-loop-candidate l =
    l.found.items ≡ l.fn.found.items ++ map (with_candidate l.chain) (take l.candidate-index l.candidates)
