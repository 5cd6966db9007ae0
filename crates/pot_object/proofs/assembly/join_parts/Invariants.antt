use Rattle.std.proofs.Common.{◌≡◌}
use Rattle.pot_object.specs.Assembly.{joined, part_at}
use Rattle.pot_object.proofs.assembly.join_parts.Given as goal

abbrev pub invariant-loop-number : goal.invariant-loop-number
invariant-loop-number l = l.file.items ≡ joined (part_at l.objects) l.number
