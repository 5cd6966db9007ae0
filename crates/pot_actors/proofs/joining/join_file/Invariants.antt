use Rattle.std.proofs.Common.{◌≡◌, ◌≤◌, length, vec_capacity}
use Rattle.pot_actors.specs.Joins.{PiecesJoined}
use Rattle.pot_actors.proofs.joining.join_file.Given as goal

abbrev pub invariant-loop-piece : goal.invariant-loop-piece
invariant-loop-piece l = record {
  joined : PiecesJoined l.kept l.gathered l.piece l.file.items;
  room : 7424 ≤ vec_capacity l.fragments;
  wide : length l.object ≡ 928;
}
