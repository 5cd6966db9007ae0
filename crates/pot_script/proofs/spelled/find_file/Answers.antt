use Rattle.pot_script.proofs.LineLemmas.{unfinished}
use Rattle.pot_script.proofs.spelled.find_file.Goals as goal

pub returns-in_err-file : goal.returns-in_err-file
returns-in_err-file c =
    rw c.from_residual-in_err-file.ensures
    (unfinished c.args.rack.now c.args.words c.in_ok-name.name c.args.rest.now c.in_ok-name.length c.in_ok-name.ensures.1 c.in_ok-name.ensures.2 c.in_err-file.ensures)
