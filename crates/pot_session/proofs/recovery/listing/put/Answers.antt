use Rattle.pot_session.proofs.ListingLemmas.{begun_front}
use Rattle.pot_session.proofs.recovery.listing.put.Goals as goal

pub returns-in-Err-clause-puts : goal.returns-in-Err-clause-puts
returns-in-Err-clause-puts g c = λ told. let w = c.in-Err.ensures.told told in begun_front _ _ _ w.0 w.2
