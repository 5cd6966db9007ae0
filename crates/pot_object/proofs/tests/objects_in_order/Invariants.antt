use Rattle.std.proofs.Common.{◌≡◌}
use Rattle.pot_object.specs.Assembly.{objects_from}
use Rattle.pot_object.proofs.tests.objects_in_order.Given as goal

abbrev pub invariant-loop-piece : goal.invariant-loop-piece
invariant-loop-piece l = l.objects.items ≡ objects_from l.file_id l.file 0 l.piece
