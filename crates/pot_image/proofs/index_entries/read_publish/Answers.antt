use Rattle.pot_image.proofs.Once.{ok_then, done_reads}
use Rattle.pot_image.proofs.Steps.{fails_then, exits}
use Rattle.pot_image.specs.Logs.{behind_name}
use Rattle.pot_image.proofs.index_entries.read_publish.Goals as goal

pub returns-in_err-mark : goal.returns-in_err-mark
unfolding behind_name
returns-in_err-mark c = exits _ _ _ _ c.from_residual.ensures.1 (fails_then _ _ _ _ c.in_err-mark.ensures)

pub returns : goal.returns
unfolding behind_name
returns c = ok_then _ _ _ _ _ _ c.in_ok-mark.ensures (done_reads _ _)
