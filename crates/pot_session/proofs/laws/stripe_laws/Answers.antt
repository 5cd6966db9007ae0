use Rattle.std.proofs.Common.{IsTrue}
use Rattle.pot_session.proofs.StripeLemmas.{stripes_fit}
use Rattle.pot_session.proofs.laws.stripe_laws.Goals as goal

pub returns : goal.returns
returns g c = stripes_fit (IsTrue g.A.Archive.account.tells)
