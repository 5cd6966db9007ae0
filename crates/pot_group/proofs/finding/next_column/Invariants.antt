use Rattle.std.proofs.Common.{◌≡◌, ℕ, ◌<◌, ◌≤◌, false}
use Rattle.pot_machine.specs.Table.{slot_at}
use Rattle.pot_group.specs.Finding.{is_of}
use Rattle.pot_group.proofs.finding.next_column.Given as goal

abbrev pub invariant-loop-at : goal.invariant-loop-at
invariant-loop-at l = record {
  after : l.column ≤ l.at;
  none : (k : ℕ) → l.column ≤ k → k < l.at → is_of l.kind (slot_at l.table l.stripe k) ≡ false;
}
