use Rattle.pot_session.proofs.ListingLemmas.{begun_nothing}
use Rattle.pot_session.proofs.recovery.listing.put_line.Goals as goal

pub returns-in-Err-clause-puts : goal.returns-in-Err-clause-puts
returns-in-Err-clause-puts g c = λ text is told. begun_nothing _ text
