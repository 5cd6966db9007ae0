use Rattle.std.proofs.Common.{◌∙◌, subst}
use Rattle.pot_outside.specs.Accounts.{transition}
use Rattle.pot_commands.specs.Streams.{Wrote}
use Rattle.pot_session.specs.Listing.{Began}
use Rattle.pot_session.proofs.ListingLemmas.{begun_front, begun_nothing}
use Rattle.pot_session.proofs.auditing.put_loose.Goals as goal

pub returns-in_default-clause-puts : goal.returns-in_default-clause-puts
returns-in_default-clause-puts g c = λ told. begun_nothing _ _

pub returns-clause-puts : goal.returns-clause-puts
returns-clause-puts g c =
    subst (Began (transition g.K.Sink.account c.args.sink.now c.write_out.new.sink)) (c.deref.ensures.value ∙ c.in-Ok.ensures)
    (λ told. let w = c.in-Err.ensures.told told in begun_front _ _ c.deref.result.now w.0 w.2)

pub returns-in-Ok-write_out-clause-puts : goal.returns-in-Ok-write_out-clause-puts
returns-in-Ok-write_out-clause-puts g c =
    subst (Wrote (transition g.K.Sink.account c.args.sink.now c.write_out.new.sink)) (c.deref.ensures.value ∙ c.in-Ok.ensures) c.in-Ok-write_out.ensures.told
