use Rattle.std.proofs.Common.{◌↔◌, ◌⊎◌, ℕ, take}
use Rattle.pot_chains.specs.Listed.{IsIn}
use Rattle.pot_recover.specs.Reached.{IsHit}
use Rattle.pot_recover.proofs.sets.push_hits.Given as goal

abbrev pub invariant-loop-candidate : goal.invariant-loop-candidate
invariant-loop-candidate l =
    (p : ℕ) → IsIn l.found.items p ↔ (IsIn l.fn.found.items p ⊎ IsHit l.there l.share (take l.candidate-index l.candidates) p)
