use Rattle.pot_promises.proofs.Giving.{gives_back, gives_back_later}
use Rattle.pot_promises.proofs.file_laws.Goals as goal

pub returns : goal.returns
returns c = record { gives_back = gives_back; gives_back_later = gives_back_later }
