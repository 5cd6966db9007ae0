use Rattle.std.proofs.Common.{◌≡◌, ℕ, length}
use Rattle.std.specs.Prelude.{Some, slice_get}
use Rattle.pot_bench.specs.Plain.{meaning_in}
use Rattle.pot_group.specs.Group.{view_of}
use Rattle.pot_shared.specs.Sharing.{IsRackGroup}
use Rattle.pot_bench.proofs.sessions.start_groups.Given as goal

abbrev pub invariant-loop-number : goal.invariant-loop-number
invariant-loop-number l = record {
  count : length l.members.items ≡ l.number;
  groups : (n : ℕ) (m : _) → slice_get l.members.items n ≡ Some m → IsRackGroup l.rack n (view_of meaning_in m.group);
}
