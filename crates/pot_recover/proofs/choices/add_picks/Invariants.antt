use Rattle.std.proofs.Common.{◌↔◌, ◌⊎◌, List, ℕ, map}
use Rattle.pot_chains.specs.Listed.{IsIn}
use Rattle.pot_recover.specs.Choices.{items_of, IsPicked}
use Rattle.pot_recover.proofs.choices.add_picks.Given as goal

abbrev pub invariant-loop-number : goal.invariant-loop-number
invariant-loop-number l =
    (o : List ℕ) → IsIn l.objects.items o ↔ (IsIn l.fn.objects.items o ⊎ IsPicked l.first (map items_of l.parts) l.number o)
