use Rattle.pot_image.specs.Reading.{reading}
use Rattle.std.proofs.Common.{ap, sym, ◌∙◌}
use Rattle.pot_image.proofs.Once.{ok_then, done_reads}
use Rattle.pot_image.proofs.Steps.{fails_then, fails_on, fails_as, exits}
use Rattle.pot_image.specs.Heads.{parity}
use Rattle.pot_image.proofs.head.read_parity.Goals as goal

pub returns-in_err-padding-in-First : goal.returns-in_err-padding-in-First
unfolding parity
returns-in_err-padding-in-First c = exits _ _ _ _ c.from_residual.ensures.1 (fails_as _ _ _ (ap (λ f. reading (parity f) c.args.bytes.now) (sym c.in-First.is)) (fails_then _ _ _ _ c.in_err-padding-in-First.ensures))

pub returns-in_err-parity-in-Second : goal.returns-in_err-parity-in-Second
unfolding parity
returns-in_err-parity-in-Second c = exits _ _ _ _ c.from_residual-in_err-parity-in-Second.ensures.1 (fails_as _ _ _ (ap (λ f. reading (parity f) c.args.bytes.now) (sym c.in-Second.is)) (fails_then _ _ _ _ c.in_err-parity-in-Second.ensures))

pub returns-in_err-zero-in-Second : goal.returns-in_err-zero-in-Second
unfolding parity
returns-in_err-zero-in-Second c = exits _ _ _ _ c.from_residual-in_err-zero-in-Second.ensures.1 (fails_as _ _ _ (ap (λ f. reading (parity f) c.args.bytes.now) (sym c.in-Second.is)) (fails_on _ _ _ _ _ _ c.in_ok-parity-in-Second.ensures (fails_then _ _ _ _ c.in_err-zero-in-Second.ensures)))

pub returns-in_ok-padding-in-First : goal.returns-in_ok-padding-in-First
unfolding parity
returns-in_ok-padding-in-First c = ap (λ f. reading (parity f) c.args.bytes.now) c.in-First.is ∙ ok_then _ _ _ _ _ _ c.in_ok-padding-in-First.ensures (done_reads _ _)

pub returns-in_ok-zero-in-Second : goal.returns-in_ok-zero-in-Second
unfolding parity
returns-in_ok-zero-in-Second c = ap (λ f. reading (parity f) c.args.bytes.now) c.in-Second.is ∙ ok_then _ _ _ _ _ _ c.in_ok-parity-in-Second.ensures (ok_then _ _ _ _ _ _ c.in_ok-zero-in-Second.ensures (done_reads _ _))
