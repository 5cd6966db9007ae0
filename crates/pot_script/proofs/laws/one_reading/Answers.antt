use Rattle.pot_script.proofs.CommandLemmas.{one_command}
use Rattle.pot_script.proofs.ScriptLemmas.{one_script, one_fault, no_fault}
use Rattle.pot_script.proofs.laws.one_reading.Goals as goal

pub returns-clause-command : goal.returns-clause-command
returns-clause-command c = one_command

pub returns-clause-script : goal.returns-clause-script
returns-clause-script c = λ rack bytes cs ds. one_script

pub returns-clause-line : goal.returns-clause-line
returns-clause-line c = λ rack bytes m n. one_fault

pub returns-clause-either : goal.returns-clause-either
returns-clause-either c = λ rack bytes cs n. no_fault
