use Rattle.std.proofs.Common.{◌≡◌, min, length, take}
use Rattle.std.specs.List.{flat_map}
use Rattle.pot_recover.specs.Choices.{choices_of}
use Rattle.pot_recover.proofs.choices.count_choices.Given as goal

abbrev pub invariant-loop-first : goal.invariant-loop-first
invariant-loop-first l = l.count ≡ min (length (flat_map (choices_of l.contents) (take l.first-index l.contents))) 4000001
