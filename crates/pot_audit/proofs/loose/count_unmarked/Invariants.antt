use Rattle.std.proofs.Common.{◌≡◌, ◌≤◌, ◌&&◌, not}
use Rattle.pot_machine.specs.Slot.{is_void}
use Rattle.pot_machine.specs.Table.{count, slot_at}
use Rattle.pot_audit.specs.Loose.{is_marked}
use Rattle.pot_audit.proofs.loose.count_unmarked.Given as goal

abbrev pub invariant-loop-stripe : goal.invariant-loop-stripe
invariant-loop-stripe l = record {
  is : l.count ≡ count l.stripe (λ s. not (is_void (slot_at l.table s l.column)) && not (is_marked l.marks s));
  few : l.count ≤ l.stripe;
}
