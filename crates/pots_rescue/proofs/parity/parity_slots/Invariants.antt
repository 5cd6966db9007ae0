use Rattle.std.proofs.Common.{◌≡◌}
use Rattle.pots_rescue.specs.Parity.{in_groups}
use Rattle.pots_rescue.proofs.parity.parity_slots.Given as goal

abbrev pub invariant-loop-group : goal.invariant-loop-group
invariant-loop-group l = l.list.items ≡ in_groups l.image.tables.items l.group
