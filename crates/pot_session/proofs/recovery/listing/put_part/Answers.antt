use Rattle.std.proofs.Common.{◌++◌, sym, ap, subst, ◌∙◌, append-nil}
use Rattle.pot_outside.specs.Accounts.{transition}
use Rattle.pot_session.specs.Listing.{PutsText}
use Rattle.pot_session.proofs.ListingLemmas.{part_found, part_missing}
use Rattle.pot_session.proofs.recovery.listing.put_part.Goals as goal

pub returns-in-Some-clause-puts : goal.returns-in-Some-clause-puts
returns-in-Some-clause-puts g c =
    subst (λ text. PutsText (transition g.K.Sink.account c.args.sink.now c.put.new.sink) text c.put.result)
    (c.part_in.ensures ∙ sym (part_found c.args.found.now c.args.object.now c.front_at.result c.args.piece c.front_at.ensures c.in-Some.place c.object.result.now (sym c.first_with.ensures ∙ c.in-Some.is) c.object.ensures))
    c.put.ensures.puts

pub returns-in-None-clause-puts : goal.returns-in-None-clause-puts
returns-in-None-clause-puts g c = λ told.
    sym (ap (λ text. (g.K.Sink.account.meaning c.args.sink.now).held ++ text) (part_missing c.args.found.now c.args.object.now c.front_at.result c.args.piece c.front_at.ensures (sym c.first_with.ensures ∙ c.in-None.is))
    ∙ append-nil (g.K.Sink.account.meaning c.args.sink.now).held)
