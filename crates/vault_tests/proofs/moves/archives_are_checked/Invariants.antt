use Rattle.pot_shared.specs.Ready.{AreReady}
use Rattle.vault_tests.proofs.moves.archives_are_checked.Given as goal

abbrev pub invariant-loop-from : goal.invariant-loop-from
invariant-loop-from g l = AreReady l.vault-inside.rack l.vault-inside.groups.names l.passes.groups
