use Rattle.std.proofs.Common.{sym}
use Rattle.pot_image.proofs.Steps.{exits, fails_at}
use Rattle.pot_image.proofs.Steps.{text_narrowed, text_barred, text_short}
use Rattle.pot_image.proofs.names.read_name_above.Goals as goal

pub returns-in_err-name-clause-reads : goal.returns-in_err-name-clause-reads
returns-in_err-name-clause-reads c = exits _ _ _ _ c.from_residual.ensures.1 (text_short _ _ _ _ _ c.in_err-name.ensures.reads)

pub returns-then-not-is_above-clause-reads : goal.returns-then-not-is_above-clause-reads
returns-then-not-is_above-clause-reads c = fails_at _ _ _ c.at.ensures (text_barred _ _ _ _ _ _ c.in_ok-name.ensures.reads (sym c.if-not-is_above.ensures))

pub returns-clause-reads : goal.returns-clause-reads
returns-clause-reads c = text_narrowed _ _ _ _ _ _ c.in_ok-name.ensures.reads (sym c.if-not-is_above.ensures)
