use Rattle.std.proofs.Common.{sym, ◌∙◌, subst}
use Rattle.pot_options.specs.Options.{AreOptionsRead}
use Rattle.pot_options.proofs.Link.{read_of, unread_of, unread_delimiter}
use Rattle.pot_options.proofs.reading.read_options.Goals as goal

pub returns-then-has_delimiter : goal.returns-then-has_delimiter
returns-then-has_delimiter c = unread_delimiter _ _ c.requires (sym c.if-has_delimiter.ensures)

pub of-requires : goal.of-requires
of-requires c = (read_of _ _ _ c.in-Ok.matches c.in_ok-command.ensures c.requires (sym c.if-has_delimiter.ensures) c.in-Ok.ensures.kinds c.in-Ok.ensures.matches).0

pub returns-in-Ok : goal.returns-in-Ok
returns-in-Ok c = subst (AreOptionsRead _ _) (sym c.of.ensures) (read_of _ _ _ c.in-Ok.matches c.in_ok-command.ensures c.requires (sym c.if-has_delimiter.ensures) c.in-Ok.ensures.kinds c.in-Ok.ensures.matches).1

pub returns : goal.returns
returns c = unread_of _ _ _ c.in-Err.error c.in_ok-command.ensures c.requires c.in-Err.ensures.kinds (λ e. c.in_default.not-OutOfMemory (c.kind.ensures ∙ e))
