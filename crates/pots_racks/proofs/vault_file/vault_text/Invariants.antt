use Rattle.std.proofs.Common.{◌≡◌, ◌++◌}
use Rattle.pots_racks.specs.Racks.{head, lines}
use Rattle.pots_racks.proofs.vault_file.vault_text.Given as goal

abbrev pub invariant-loop-before : goal.invariant-loop-before
invariant-loop-before l = l.text.items ≡ head ++ lines l.before
