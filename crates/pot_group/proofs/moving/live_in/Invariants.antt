use Rattle.std.proofs.Common.{◌≡◌}
use Rattle.pot_machine.specs.Slot.{is_live}
use Rattle.pot_machine.specs.Table.{slot_at, count}
use Rattle.pot_group.proofs.moving.live_in.Given as goal

abbrev pub invariant-loop-stripe : goal.invariant-loop-stripe
invariant-loop-stripe l = l.live ≡ count l.stripe (λ s. is_live (slot_at l.table s l.column))
