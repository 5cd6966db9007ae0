use Rattle.pot_object.specs.Assembly.{BeginsWhole}
use Rattle.pot_object.proofs.assembly.first_gap.Given as goal

abbrev pub invariant-loop-piece : goal.invariant-loop-piece
invariant-loop-piece l = BeginsWhole l.objects l.piece
