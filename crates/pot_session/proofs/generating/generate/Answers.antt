use Rattle.std.proofs.Common.{ap, refl, sym, subst, ◌∙◌, Ok, Err}
use Rattle.pot_outside.specs.Accounts.{transition}
use Rattle.pot_commands.specs.Streams.{WritesText}
use Rattle.pot_doubles.specs.Streams.{written_to}
use Rattle.pot_session.specs.Generating.{Told, summary}
use Rattle.pot_session.proofs.generating.generate.Goals as goal

pub returns-in-Ok-write_out-clause-generates : goal.returns-in-Ok-write_out-clause-generates
returns-in-Ok-write_out-clause-generates g c =
    Told (written_to c.in-Ok.ran.sink) c.in-Ok.ran.status c.in-Ok.ensures (sym c.is_answered.ensures ∙ c.if-not-is_answered.false) (Ok tt)
    (subst (λ text. WritesText (transition g.K.Sink.account c.args.sink.now c.write_out.new.sink) text (Ok tt))
    (c.deref.ensures.value ∙ (c.in-Ok-summary.ensures ∙ ap (summary c.args.number) c.written.ensures)) c.in-Ok-write_out.ensures.told) refl

pub returns-clause-generates : goal.returns-clause-generates
returns-clause-generates g c =
    Told (written_to c.in-Ok.ran.sink) c.in-Ok.ran.status c.in-Ok.ensures (sym c.is_answered.ensures ∙ c.if-not-is_answered.false) (Err c.in-Err.field-0)
    (subst (λ text. WritesText (transition g.K.Sink.account c.args.sink.now c.write_out.new.sink) text (Err c.in-Err.field-0))
    (c.deref.ensures.value ∙ (c.in-Ok-summary.ensures ∙ ap (summary c.args.number) c.written.ensures)) c.in-Err.ensures.told) refl
