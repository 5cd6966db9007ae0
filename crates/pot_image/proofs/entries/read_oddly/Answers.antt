use Rattle.pot_image.proofs.Once.{ok_then, done_reads}
use Rattle.pot_image.proofs.Steps.{fails_then, fails_on, exits}
use Rattle.pot_image.specs.Logs.{entry_of}
use Rattle.pot_image.proofs.entries.read_oddly.Goals as goal

pub returns-in_err-stripe : goal.returns-in_err-stripe
unfolding entry_of
returns-in_err-stripe c = exits _ _ _ _ c.from_residual.ensures.1 (fails_then _ _ _ _ c.in_err-stripe.ensures)

pub returns-in_err-found : goal.returns-in_err-found
unfolding entry_of
returns-in_err-found c = exits _ _ _ _ c.from_residual-in_err-found.ensures.1 (fails_on _ _ _ _ _ _ c.in_ok-stripe.ensures (fails_then _ _ _ _ c.in_err-found.ensures))

pub returns : goal.returns
unfolding entry_of
returns c = ok_then _ _ _ _ _ _ c.in_ok-stripe.ensures (ok_then _ _ _ _ _ _ c.in_ok-found.ensures (done_reads _ _))
