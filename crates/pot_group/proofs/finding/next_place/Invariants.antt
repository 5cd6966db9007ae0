use Rattle.std.proofs.Common.{◌≡◌, ℕ, ◌<◌, ◌≤◌, false}
use Rattle.pot_machine.specs.Table.{slot_at}
use Rattle.pot_group.specs.Finding.{is_of, IsFrom}
use Rattle.pot_group.proofs.finding.next_place.Given as goal

abbrev pub invariant-loop-at : goal.invariant-loop-at
invariant-loop-at l = record {
  after : l.stripe ≤ l.at;
  none : (n k : ℕ) → IsFrom l.table l.stripe l.column n k → n < l.at → is_of l.kind (slot_at l.table n k) ≡ false;
}
