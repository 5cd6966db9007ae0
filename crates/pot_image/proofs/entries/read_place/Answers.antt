use Rattle.pot_image.proofs.Once.{ok_then, done_reads}
use Rattle.pot_image.proofs.Steps.{fails_then, fails_on, exits}
use Rattle.pot_image.proofs.entries.read_place.Goals as goal

pub returns-in_err-stripe : goal.returns-in_err-stripe
returns-in_err-stripe c = exits _ _ _ _ c.from_residual.ensures.1 (fails_then _ _ _ _ c.in_err-stripe.ensures)

pub returns-in_err-column : goal.returns-in_err-column
returns-in_err-column c = exits _ _ _ _ c.from_residual-in_err-column.ensures.1 (fails_on _ _ _ _ _ _ c.in_ok-stripe.ensures (fails_then _ _ _ _ c.in_err-column.ensures))

pub returns : goal.returns
returns c = ok_then _ _ _ _ _ _ c.in_ok-stripe.ensures (ok_then _ _ _ _ _ _ c.in_ok-column.ensures (done_reads _ _))
