use Rattle.std.proofs.Common.{◌≡◌, ◌++◌}
use Rattle.pot_generator.specs.Generated.{first_fetches}
use Rattle.pot_generator.proofs.commands.append_fetches.Given as goal

abbrev pub invariant-loop-place : goal.invariant-loop-place
invariant-loop-place l = l.commands.items ≡ l.initial.commands.items ++ first_fetches l.place
