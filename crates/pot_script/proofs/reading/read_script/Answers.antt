use Rattle.pot_script.proofs.ScriptLemmas.{script_is_read, fault_is_told}
use Rattle.pot_script.proofs.reading.read_script.Goals as goal

pub returns-clause-each_script : goal.returns-clause-each_script
returns-clause-each_script c = λ script. script_is_read c.args.rack.now c.read_lines.result c.args.bytes.now script c.read_lines.ensures.ok c.read_lines.ensures.bad

pub returns-clause-each_fault : goal.returns-clause-each_fault
returns-clause-each_fault c = λ line. fault_is_told c.args.rack.now c.read_lines.result c.args.bytes.now line c.read_lines.ensures.ok c.read_lines.ensures.bad
