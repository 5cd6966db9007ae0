use Rattle.std.proofs.Common.{◌≡◌, ◌≤◌, ◌-◌, map}
use Rattle.std.specs.List.{range_with_len}
use Rattle.pot_recover.specs.Choices.{items_of, list_of}
use Rattle.pot_recover.proofs.choices.others_of.Given as goal

abbrev pub invariant-loop-number : goal.invariant-loop-number
invariant-loop-number l = (map items_of l.parts.items ≡ map (list_of l.contents l.first) (range_with_len 2 (l.number - 2))) × (2 ≤ l.number)
