use Rattle.std.proofs.Common.{◌≡◌, ◌++◌}
use Rattle.pot_generator.specs.Generated.{first_stores}
use Rattle.pot_generator.proofs.commands.append_stores.Given as goal

abbrev pub invariant-loop-place : goal.invariant-loop-place
invariant-loop-place l = l.commands.items ≡ l.initial.commands.items ++ first_stores l.number l.place
