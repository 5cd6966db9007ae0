use Rattle.std.proofs.Common.{◌≡◌, ◌<◌, [], map, drop, length}
use Rattle.pot_bytes.specs.Sums.{xor, sum_of}
use Rattle.pot_chains.specs.Picks.{how_many, pick_at}
use Rattle.pot_recover.specs.Choices.{items_of}
use Rattle.pot_recover.proofs.choices.joined.Given as goal

abbrev pub invariant-loop-part : goal.invariant-loop-part
invariant-loop-part l =
    (xor l.object (sum_of 928 (map (drop 64) (pick_at [] (map items_of (drop l.part-index l.parts)) l.rest)))
    ≡ xor (drop 64 l.fn.first) (sum_of 928 (map (drop 64) (pick_at [] (map items_of l.parts) l.number))))
    × (l.rest < how_many (map items_of (drop l.part-index l.parts))) × (length l.object ≡ 928)
