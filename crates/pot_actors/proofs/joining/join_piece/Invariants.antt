use Rattle.std.proofs.Common.{◌≡◌, ◌≤◌, ◌*◌, length, vec_capacity}
use Rattle.pot_actors.specs.Joins.{FragmentsJoined}
use Rattle.pot_actors.proofs.joining.join_piece.Given as goal

abbrev pub invariant-loop-fragment : goal.invariant-loop-fragment
invariant-loop-fragment l = record {
  joined : FragmentsJoined l.kept l.gathered l.piece l.fragment l.fragments.items;
  long : length l.fragments.items ≡ l.fragment * 928;
  room : 7424 ≤ vec_capacity l.fragments;
  wide : length l.content ≡ 992;
}
