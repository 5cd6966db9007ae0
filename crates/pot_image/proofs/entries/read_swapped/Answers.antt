use Rattle.pot_image.proofs.Once.{ok_then, done_reads}
use Rattle.pot_image.proofs.Steps.{fails_then, fails_on, exits}
use Rattle.pot_image.specs.Logs.{entry_of}
use Rattle.pot_image.proofs.entries.read_swapped.Goals as goal

pub returns-in_err-column : goal.returns-in_err-column
unfolding entry_of
returns-in_err-column c = exits _ _ _ _ c.from_residual.ensures.1 (fails_then _ _ _ _ c.in_err-column.ensures)

pub returns-in_err-to : goal.returns-in_err-to
unfolding entry_of
returns-in_err-to c = exits _ _ _ _ c.from_residual-in_err-to.ensures.1 (fails_on _ _ _ _ _ _ c.in_ok-column.ensures (fails_then _ _ _ _ c.in_err-to.ensures))

pub returns : goal.returns
unfolding entry_of
returns c = ok_then _ _ _ _ _ _ c.in_ok-column.ensures (ok_then _ _ _ _ _ _ c.in_ok-to.ensures (done_reads _ _))
