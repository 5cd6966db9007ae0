use Rattle.std.proofs.Common.{◌≡◌, ◌++◌, flat_map}
use Rattle.std.specs.List.{range_with_len}
use Rattle.pot_recheck.specs.Telling.{count_in, group_line}
use Rattle.pot_recheck.proofs.telling.append_groups.Given as goal

abbrev pub invariant-loop-group : goal.invariant-loop-group
invariant-loop-group l = l.text.items ≡ l.fn.text.items ++ flat_map (λ g. group_line g (count_in l.found g)) (range_with_len 0 l.group)
