use Rattle.std.proofs.Common.{ap, sym, ◌∙◌, refl}
use Rattle.pot_image.proofs.Steps.{exits, fails_at, kept, refused, short}
use Rattle.pot_image.specs.Tables.{is_free}
use Rattle.pot_image.proofs.columns.read_archive.Goals as goal

pub returns-in_err-number-clause-reads : goal.returns-in_err-number-clause-reads
returns-in_err-number-clause-reads c = exits _ _ _ _ c.from_residual.ensures.1 (short _ _ _ _ _ c.in_err-number.ensures (λ n h. refl))

pub returns-then-not-is_free-clause-reads : goal.returns-then-not-is_free-clause-reads
returns-then-not-is_free-clause-reads c = fails_at _ _ _ c.at.ensures (refused _ _ _ _ _ _ c.in_ok-number.ensures (sym (c.if-not-is_free.ensures ∙ ap (λ xs. is_free xs c.in_ok-number.number) c.deref.ensures.value)))

pub returns-clause-reads : goal.returns-clause-reads
returns-clause-reads c = kept _ _ _ _ _ _ c.in_ok-number.ensures (sym (c.if-not-is_free.ensures ∙ ap (λ xs. is_free xs c.in_ok-number.number) c.deref.ensures.value))
