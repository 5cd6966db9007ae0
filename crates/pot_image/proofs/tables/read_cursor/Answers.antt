use Rattle.std.proofs.Common.{sym}
use Rattle.pot_image.proofs.Once.{ok_then, done_reads}
use Rattle.pot_image.proofs.Steps.{fails_then, fails_on, exits, fails_at, narrowed, barred, cut_short}
use Rattle.pot_image.specs.Tables.{cursor}
use Rattle.pot_image.proofs.Once.{err_then}
use Rattle.pot_image.proofs.tables.read_cursor.Goals as goal

pub returns-in_err-stripe : goal.returns-in_err-stripe
unfolding cursor
returns-in_err-stripe c = exits _ _ _ _ c.from_residual.ensures.1 (fails_then _ _ _ _ c.in_err-stripe.ensures)

pub returns-in_err-column : goal.returns-in_err-column
unfolding cursor
returns-in_err-column c = exits _ _ _ _ c.from_residual-in_err-column.ensures.1 (fails_on _ _ _ _ _ _ c.in_ok-stripe.ensures (fails_then _ _ _ _ (cut_short _ _ _ _ _ c.in_err-column.ensures)))

pub returns-then-not-is_cursor : goal.returns-then-not-is_cursor
unfolding cursor
returns-then-not-is_cursor c = fails_at _ _ _ c.at.ensures (ok_then _ _ _ _ _ _ c.in_ok-stripe.ensures (err_then _ _ _ _ (barred _ _ _ _ _ _ c.in_ok-column.ensures (sym c.if-not-is_cursor.ensures))))

pub returns-in_err-padding : goal.returns-in_err-padding
unfolding cursor
returns-in_err-padding c = exits _ _ _ _ c.from_residual-in_err-padding.ensures.1 (fails_on _ _ _ _ _ _ c.in_ok-stripe.ensures (fails_on _ _ _ _ _ _ (narrowed _ _ _ _ _ _ c.in_ok-column.ensures (sym c.if-not-is_cursor.ensures)) (fails_then _ _ _ _ c.in_err-padding.ensures)))

pub returns : goal.returns
unfolding cursor
returns c = ok_then _ _ _ _ _ _ c.in_ok-stripe.ensures (ok_then _ _ _ _ _ _ (narrowed _ _ _ _ _ _ c.in_ok-column.ensures (sym c.if-not-is_cursor.ensures)) (ok_then _ _ _ _ _ _ c.in_ok-padding.ensures (done_reads _ _)))
