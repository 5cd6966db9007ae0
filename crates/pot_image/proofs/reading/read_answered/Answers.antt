use Rattle.std.proofs.Common.{sym}
use Rattle.std.proofs.lemmas.Bool.{eqb-true}
use Rattle.pot_image.proofs.Once.{err_short}
use Rattle.pot_image.proofs.Frames.{leaves_form, leaves_over, nothing_left, fails_form}
use Rattle.pot_image.proofs.reading.read_answered.Goals as goal

pub returns-then-not-is_empty : goal.returns-then-not-is_empty
returns-then-not-is_empty c = leaves_over _ _ _ _ _ c.form.ensures c.in-Ok.ensures (sym c.if-not-is_empty.ensures)

pub form-requires-in-Err-Form : goal.form-requires-in-Err-Form
form-requires-in-Err-Form c = err_short _ _ _ (fails_form _ _ _ c.in-Err-Form.field-0-is c.in-Err-Form.ensures)

pub returns-else-not-is_empty : goal.returns-else-not-is_empty
returns-else-not-is_empty c = nothing_left _ _ _ _ c.in-Ok.ensures (eqb-true _ _ (sym c.if-not-is_empty.ensures))

pub returns-in-Err-Form : goal.returns-in-Err-Form
returns-in-Err-Form c = leaves_form _ _ _ _ c.form-in-Err-Form.ensures (fails_form _ _ _ c.in-Err-Form.field-0-is c.in-Err-Form.ensures)
