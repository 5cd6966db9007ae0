use Rattle.std.proofs.Common.{[], sym, ◌∙◌}
use Rattle.pot_recover.specs.Fronts.{has_front}
use Rattle.pot_session.proofs.ListingLemmas.{before_some, before_none}
use Rattle.pot_session.proofs.recovery.listing.stands_before.Goals as goal

pub returns-in-Some : goal.returns-in-Some
returns-in-Some c = before_some (has_front c.args.front.now) c.args.found.now c.in-Some.first c.args.place [] (sym c.first_with.ensures ∙ c.in-Some.is)

pub returns-in-None : goal.returns-in-None
returns-in-None c = before_none (has_front c.args.front.now) c.args.found.now c.args.place [] (sym c.first_with.ensures ∙ c.in-None.is)
