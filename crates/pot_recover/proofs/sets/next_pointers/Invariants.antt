use Rattle.std.proofs.Common.{◌↔◌, ℕ, take}
use Rattle.pot_chains.specs.Listed.{IsIn}
use Rattle.pot_recover.specs.Reached.{IsNextPointer}
use Rattle.pot_recover.proofs.sets.next_pointers.Given as goal

abbrev pub invariant-loop-pointer : goal.invariant-loop-pointer
invariant-loop-pointer l =
    (p : ℕ) → IsIn l.found.items p ↔ IsNextPointer (take l.pointer-index l.pointers) l.there l.bits l.share p
