use Rattle.pot_image.proofs.Once.{ok_then, done_reads}
use Rattle.pot_image.proofs.Steps.{fails_then, fails_on, exits}
use Rattle.pot_image.proofs.columns.read_moving.Goals as goal

pub returns-in_err-to-clause-reads : goal.returns-in_err-to-clause-reads
returns-in_err-to-clause-reads c = exits _ _ _ _ c.from_residual.ensures.1 (fails_then _ _ _ _ c.in_err-to.ensures.reads)

pub returns-in_err-upto-clause-reads : goal.returns-in_err-upto-clause-reads
returns-in_err-upto-clause-reads c = exits _ _ _ _ c.from_residual-in_err-upto.ensures.1 (fails_on _ _ _ _ _ _ c.in_ok-to.ensures.reads (fails_then _ _ _ _ c.in_err-upto.ensures))

pub returns-clause-reads : goal.returns-clause-reads
returns-clause-reads c = ok_then _ _ _ _ _ _ c.in_ok-to.ensures.reads (ok_then _ _ _ _ _ _ c.in_ok-upto.ensures (done_reads _ _))
