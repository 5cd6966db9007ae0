use Rattle.std.proofs.Common.{◌≡◌, min, map, take}
use Rattle.pot_chains.specs.Picks.{how_many}
use Rattle.pot_recover.specs.Choices.{items_of}
use Rattle.pot_recover.proofs.choices.product.Given as goal

abbrev pub invariant-loop-part : goal.invariant-loop-part
invariant-loop-part l = l.product ≡ min (how_many (map items_of (take l.part-index l.parts))) 4000001
