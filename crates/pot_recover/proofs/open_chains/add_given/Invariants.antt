use Rattle.std.proofs.Common.{◌↔◌, ◌⊎◌, List, ℕ, take}
use Rattle.pot_chains.specs.Listed.{IsIn}
use Rattle.pot_recover.specs.Groups.{parts_of}
use Rattle.pot_recover.specs.OpenScopes.{IsGivenAmong}
use Rattle.pot_recover.proofs.open_chains.add_given.Given as goal

abbrev pub invariant-loop-chain : goal.invariant-loop-chain
invariant-loop-chain l =
    (c : List ℕ) → IsIn l.found.items c
    ↔ (IsIn l.fn.found.items c ⊎ IsGivenAmong (parts_of l.window.bits l.window.parts.items) (take l.chain-index l.chains) c)
