use Rattle.pot_replies.proofs.SessionLemmas.{own_in_sections, replied_none, replied_more}
use Rattle.pot_replies.proofs.session_laws.Goals as goal

pub returns : goal.returns
returns g c = record { own = own_in_sections; none = replied_none g.R.ReplyTable.answers; more = replied_more g.R.ReplyTable.answers }
