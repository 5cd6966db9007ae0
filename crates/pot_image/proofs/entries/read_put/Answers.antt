use Rattle.pot_image.proofs.Once.{ok_then, done_reads}
use Rattle.pot_image.proofs.Steps.{fails_then, fails_on, exits}
use Rattle.pot_image.specs.Logs.{entry_of}
use Rattle.pot_image.proofs.entries.read_put.Goals as goal

pub returns-in_err-stripe : goal.returns-in_err-stripe
unfolding entry_of
returns-in_err-stripe c = exits _ _ _ _ c.from_residual.ensures.1 (fails_then _ _ _ _ c.in_err-stripe.ensures)

pub returns-in_err-digest : goal.returns-in_err-digest
unfolding entry_of
returns-in_err-digest c = exits _ _ _ _ c.from_residual-in_err-digest.ensures.1 (fails_on _ _ _ _ _ _ c.in_ok-stripe.ensures (fails_then _ _ _ _ c.in_err-digest.ensures))

pub returns-in_err-parity_digest : goal.returns-in_err-parity_digest
unfolding entry_of
returns-in_err-parity_digest c = exits _ _ _ _ c.from_residual-in_err-parity_digest.ensures.1 (fails_on _ _ _ _ _ _ c.in_ok-stripe.ensures (fails_on _ _ _ _ _ _ c.in_ok-digest.ensures (fails_then _ _ _ _ c.in_err-parity_digest.ensures)))

pub returns-in_err-kept : goal.returns-in_err-kept
unfolding entry_of
returns-in_err-kept c = exits _ _ _ _ c.from_residual-in_err-kept.ensures.1 (fails_on _ _ _ _ _ _ c.in_ok-stripe.ensures (fails_on _ _ _ _ _ _ c.in_ok-digest.ensures (fails_on _ _ _ _ _ _ c.in_ok-parity_digest.ensures (fails_then _ _ _ _ c.in_err-kept.ensures))))

pub returns : goal.returns
unfolding entry_of
returns c = ok_then _ _ _ _ _ _ c.in_ok-stripe.ensures (ok_then _ _ _ _ _ _ c.in_ok-digest.ensures (ok_then _ _ _ _ _ _ c.in_ok-parity_digest.ensures (ok_then _ _ _ _ _ _ c.in_ok-kept.ensures (done_reads _ _))))
