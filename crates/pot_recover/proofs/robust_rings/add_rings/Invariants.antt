use Rattle.std.proofs.Common.{◌↔◌, ◌⊎◌, List, ℕ, take}
use Rattle.pot_chains.specs.Listed.{IsIn}
use Rattle.pot_recover.specs.Groups.{parts_of}
use Rattle.pot_recover.specs.LongScopes.{IsRobustlyFoundAmong}
use Rattle.pot_recover.proofs.robust_rings.add_rings.Given as goal

abbrev pub invariant-loop-chain : goal.invariant-loop-chain
invariant-loop-chain l =
    (c : List ℕ) → IsIn l.found.items c
    ↔ (IsIn l.fn.found.items c ⊎ IsRobustlyFoundAmong (parts_of l.group.bits l.group.parts.items) (take l.chain-index l.chains) c)
