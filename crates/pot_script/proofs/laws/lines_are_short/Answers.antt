use Rattle.std.proofs.Common.{arith}
use Rattle.pot_script.proofs.CommandLemmas.{length-command_line}
use Rattle.pot_script.proofs.laws.lines_are_short.Goals as goal

pub returns : goal.returns
returns c = λ rack command is. omega (arith, length-command_line rack command is)
