use Rattle.std.proofs.Common.{◌≡◌, map}
use Rattle.std.specs.List.{range_with_len}
use Rattle.pot_recover.specs.Groups.{part_of, now_of}
use Rattle.pot_recover.proofs.group.parts_in.Given as goal

abbrev pub invariant-loop-x : goal.invariant-loop-x
invariant-loop-x l = map now_of l.parts.items ≡ map (part_of l.need l.count l.held) (range_with_len 1 l.x)
