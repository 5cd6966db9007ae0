use Rattle.pot_shared.specs.Ready.{AreReady}
use Rattle.vault_tests.proofs.scene.put_blocks.Given as goal

abbrev pub invariant-loop-number : goal.invariant-loop-number
invariant-loop-number g l = AreReady l.vault.rack l.vault.groups l.passes.groups
