use Rattle.std.proofs.Common.{◌≡◌, take}
use Rattle.pot_script.specs.Scripts.{script_text}
use Rattle.pot_client.proofs.script.write_script.Given as goal

abbrev pub invariant-loop-command : goal.invariant-loop-command
invariant-loop-command l = record {
  appended : l.script.items ≡ script_text (take l.command-index l.commands);
}
