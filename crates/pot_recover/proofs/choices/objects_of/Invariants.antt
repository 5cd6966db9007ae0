use Rattle.std.proofs.Common.{◌↔◌, List, ℕ, take}
use Rattle.pot_chains.specs.Listed.{IsIn}
use Rattle.pot_recover.specs.Choices.{IsGiven}
use Rattle.pot_recover.proofs.choices.objects_of.Given as goal

abbrev pub invariant-loop-first : goal.invariant-loop-first
invariant-loop-first l = (o : List ℕ) → IsIn l.objects.items o ↔ IsGiven l.contents (take l.first-index l.contents) o
