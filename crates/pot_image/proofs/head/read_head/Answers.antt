use Rattle.pot_image.proofs.Once.{ok_then, done_reads}
use Rattle.pot_image.proofs.Steps.{fails_then, fails_on, exits}
use Rattle.pot_image.specs.Heads.{head}
use Rattle.pot_image.proofs.head.read_head.Goals as goal

pub returns-in_err-session : goal.returns-in_err-session
unfolding head
returns-in_err-session c = exits _ _ _ _ c.from_residual.ensures.1 (fails_then _ _ _ _ c.in_err-session.ensures)

pub returns-in_err-groups : goal.returns-in_err-groups
unfolding head
returns-in_err-groups c = exits _ _ _ _ c.from_residual-in_err-groups.ensures.1 (fails_on _ _ _ _ _ _ c.in_ok-session.ensures (fails_then _ _ _ _ c.in_err-groups.ensures))

pub returns-in_err-columns : goal.returns-in_err-columns
unfolding head
returns-in_err-columns c = exits _ _ _ _ c.from_residual-in_err-columns.ensures.1 (fails_on _ _ _ _ _ _ c.in_ok-session.ensures (fails_on _ _ _ _ _ _ c.in_ok-groups.ensures (fails_then _ _ _ _ c.in_err-columns.ensures)))

pub returns-in_err-geometry : goal.returns-in_err-geometry
unfolding head
returns-in_err-geometry c = exits _ _ _ _ c.from_residual-in_err-geometry.ensures.1 (fails_on _ _ _ _ _ _ c.in_ok-session.ensures (fails_on _ _ _ _ _ _ c.in_ok-groups.ensures (fails_on _ _ _ _ _ _ c.in_ok-columns.ensures (fails_then _ _ _ _ c.in_err-geometry.ensures))))

pub returns-in_err-parity : goal.returns-in_err-parity
unfolding head
returns-in_err-parity c = exits _ _ _ _ c.from_residual-in_err-parity.ensures.1 (fails_on _ _ _ _ _ _ c.in_ok-session.ensures (fails_on _ _ _ _ _ _ c.in_ok-groups.ensures (fails_on _ _ _ _ _ _ c.in_ok-columns.ensures (fails_on _ _ _ _ _ _ c.in_ok-geometry.ensures (fails_then _ _ _ _ c.in_err-parity.ensures)))))

pub returns-in_err-stripes : goal.returns-in_err-stripes
unfolding head
returns-in_err-stripes c = exits _ _ _ _ c.from_residual-in_err-stripes.ensures.1 (fails_on _ _ _ _ _ _ c.in_ok-session.ensures (fails_on _ _ _ _ _ _ c.in_ok-groups.ensures (fails_on _ _ _ _ _ _ c.in_ok-columns.ensures (fails_on _ _ _ _ _ _ c.in_ok-geometry.ensures (fails_on _ _ _ _ _ _ c.in_ok-parity.ensures (fails_then _ _ _ _ c.in_err-stripes.ensures))))))

pub returns : goal.returns
unfolding head
returns c = ok_then _ _ _ _ _ _ c.in_ok-session.ensures (ok_then _ _ _ _ _ _ c.in_ok-groups.ensures (ok_then _ _ _ _ _ _ c.in_ok-columns.ensures (ok_then _ _ _ _ _ _ c.in_ok-geometry.ensures (ok_then _ _ _ _ _ _ c.in_ok-parity.ensures (ok_then _ _ _ _ _ _ c.in_ok-stripes.ensures (done_reads _ _))))))
